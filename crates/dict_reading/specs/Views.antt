-- What contracts see of an entry's line.
use Rattle.dict_index.specs.Line.{Line}
use Rattle.dict_reading.specs.declared.reading.ReadLine.{ReadLine}

-- what the line says
abbrev pub line_read : ReadLine → Line
line_read line = record { headword = line.headword.now; offset = line.offset; size = line.size; shown = line.shown.now }
