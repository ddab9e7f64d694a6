-- What the quoted texts of a line are in a kind.
use Rattle.tdl_mini_grammar.specs.Readings.{IsReading}
use Rattle.tdl_line_reader.specs.ReaderView.{Reads}
use Rattle.tdl_script.specs.declared.quoted.QuotedText.{QuotedText}

abbrev pub text_reads : Reads QuotedText
text_reads kind quoted reading = IsReading kind quoted.bytes.now reading
