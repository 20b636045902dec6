use Rattle.std.proofs.Common.{refl}
use Rattle.std.specs.Str.{is_utf8, chars}
use lib.Utf8.{encode}
use Rattle.dict_proto.specs.Meaning.{meaning}
use Rattle.dict_proto.proofs.line_laws.worked_meanings.Goals as goal

pub returns-clause-parts : goal.returns-clause-parts
unfolding meaning is_utf8 chars encode
returns-clause-parts c = refl

pub returns-clause-pair : goal.returns-clause-pair
unfolding meaning is_utf8 chars encode
returns-clause-pair c = refl

pub returns-clause-three : goal.returns-clause-three
unfolding meaning is_utf8 chars encode
returns-clause-three c = refl

pub returns-clause-touching : goal.returns-clause-touching
unfolding meaning is_utf8 chars encode
returns-clause-touching c = refl

pub returns-clause-last_backslash : goal.returns-clause-last_backslash
unfolding meaning is_utf8 chars encode
returns-clause-last_backslash c = refl

pub returns-clause-open_string : goal.returns-clause-open_string
unfolding meaning is_utf8 chars encode
returns-clause-open_string c = refl

pub returns-clause-tab_in_string : goal.returns-clause-tab_in_string
unfolding meaning is_utf8 chars encode
returns-clause-tab_in_string c = refl

pub returns-clause-show : goal.returns-clause-show
unfolding meaning is_utf8 chars encode
returns-clause-show c = refl

pub returns-clause-info : goal.returns-clause-info
unfolding meaning is_utf8 chars encode
returns-clause-info c = refl

pub returns-clause-unknown_show : goal.returns-clause-unknown_show
unfolding meaning is_utf8 chars encode
returns-clause-unknown_show c = refl

pub returns-clause-no_show : goal.returns-clause-no_show
unfolding meaning is_utf8 chars encode
returns-clause-no_show c = refl

pub returns-clause-no_words : goal.returns-clause-no_words
unfolding meaning is_utf8 chars encode
returns-clause-no_words c = refl

pub returns-clause-quoted_command : goal.returns-clause-quoted_command
unfolding meaning is_utf8 chars encode
returns-clause-quoted_command c = refl

pub returns-clause-more : goal.returns-clause-more
unfolding meaning is_utf8 chars encode
returns-clause-more c = refl

pub returns-clause-left_out : goal.returns-clause-left_out
unfolding meaning is_utf8 chars encode
returns-clause-left_out c = refl

pub returns-clause-unknown : goal.returns-clause-unknown
unfolding meaning is_utf8 chars encode
returns-clause-unknown c = refl

pub returns-clause-empty_line : goal.returns-clause-empty_line
unfolding meaning is_utf8 chars encode
returns-clause-empty_line c = refl

pub returns-clause-empty_word : goal.returns-clause-empty_word
unfolding meaning is_utf8 chars encode
returns-clause-empty_word c = refl
