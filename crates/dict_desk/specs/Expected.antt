-- What a keeper is told of before it comes.
use Rattle.std.specs.Prelude.{ℕ, List}
use Rattle.dict_index.specs.Edition.{Edition}
use Rattle.dict_catalogue.specs.Commands.{Command}

-- a command; or an install by its name and two files, an index and a text, which aren't read
pub data Expected : Type 0 where
  of_command : Command Edition → Expected
  of_files : List ℕ → List ℕ → List ℕ → Expected
