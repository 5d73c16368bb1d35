use Rattle.std.proofs.Common.{None, Ok}
use Rattle.pdb_msf.specs.File.{stream_of}
use Rattle.pdbdump_tables.proofs.lemmas.Reading.{read_later}
use Rattle.pdbdump_cli.proofs.WrittenLemmas.{extracted}
use Rattle.pdbdump_cli.proofs.extracted.extract_opened.Goals as goal

pub returns : goal.returns
returns g c =
    extracted c.args.asked.now (g.S.Source.state c.args.file.source) c.args.file.head c.in_ok-number.number
    c.in_ok-stream.stream _ _ _
    (read_later g.S.Source.state (λ bytes head. stream_of bytes head c.in_ok-number.number None)
    c.args.file c.number_meant.new.file c.get.new.self
    (Ok c.in_ok-stream.stream) c.number_meant.ensures.source c.number_meant.ensures.head (record {
      answer = c.in_ok-stream.ensures.answer;
      source = c.in_ok-stream.ensures.source;
      head = c.in_ok-stream.ensures.head;
    }))
    c.write_part.ensures
