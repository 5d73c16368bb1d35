use Rattle.std.proofs.Common.{◌<◌, ◌≤◌, ◌/◌, [], length, rules, sym, ap, arith, inl, inr}
use Rattle.pdb_base.specs.Place.{left}
use Rattle.pdb_base.proofs.lemmas.Refused.{passed_on}
use Rattle.pdb_file.proofs.HeaderLemmas.{header_refused, header_step}
use Rattle.pdbdump_tables.specs.Tables.{sections_listing}
use Rattle.pdbdump_tables.proofs.TableLemmas.{cut_end, section_first, section_next, section_none, whole_end}
use Rattle.pdbdump_rows.proofs.lemmas.Rows.{so_far_all, so_far_cut, so_far_more, so_far_none}
use Rattle.pdbdump_rows.proofs.lemmas.Line.{row_written}
use Rattle.pdbdump_tables.proofs.sections.write_sections.Goals as goal

pub returns-in_err-header : goal.returns-in_err-header
returns-in_err-header g c =
    let long : 40 ≤ length (left c.loop-place.buffer) =
    omega (arith, c.loop-place.invariant.rest, c.loop-place-test.true, ap length c.as_slice-size.ensures.bytes) in
    absurd (header_refused (left c.loop-place.buffer) _ long c.in_err-header.ensures.read)

pub loop-place-init : goal.loop-place-init
loop-place-init g c = record {
  written = rw section_first (so_far_none _ _ _);
  rest = search rules;
}

pub loop-place-preserved : goal.loop-place-preserved
loop-place-preserved g c =
    let long : 40 ≤ length (left c.loop-place.buffer) =
    omega (arith, c.loop-place.invariant.rest, c.loop-place-test.true, ap length c.as_slice-size.ensures.bytes) in
    let step = header_step [] (left c.loop-place.buffer) c.in_ok-header.header
    (left c.parse.new.buffer) long c.in_ok-header.ensures.read in
    let within : c.loop-place.place < length c.args.stream.now / 40 =
    omega (arith, c.loop-place-test.true, ap length c.as_slice-size.ensures.bytes) in
    record {
      written = so_far_more _ _ _ _ _ _ _ _ (section_next _ _ within) c.loop-place.invariant.written
          (row_written _ _ _ _ _ _ _ c.in_ok-write_line.ensures c.show_section.ensures c.begin.ensures);
      rest = omega (arith, step.1, c.loop-place.invariant.rest, c.loop-place-test.true);
    }

pub returns-then-size-eq0 : goal.returns-then-size-eq0
unfolding sections_listing
returns-then-size-eq0 g c =
    let over : length c.args.stream.now / 40 ≤ c.loop-place.place =
    omega (arith, c.loop-place-test.false, ap length c.as_slice-size.ensures.bytes) in (
      whole_end c.args.stream.now (ap length (sym c.as_slice-size.ensures.bytes)) c.if-size-eq0.true,
      so_far_all _ _ _ _ _ (section_none _ _ over) c.loop-place.invariant.written,
    )

pub returns : goal.returns
unfolding sections_listing
returns g c =
    let over : length c.args.stream.now / 40 ≤ c.loop-place.place =
    omega (arith, c.loop-place-test.false, ap length c.as_slice-size.ensures.bytes) in
    inl (
      cut_end c.args.stream.now (ap length (sym c.as_slice-size.ensures.bytes)) c.if-size-eq0.false,
      so_far_all _ _ _ _ _ (section_none _ _ over) c.loop-place.invariant.written,
    )

pub returns-in_err-write_line : goal.returns-in_err-write_line
unfolding sections_listing
returns-in_err-write_line g c =
    let within : c.loop-place.place < length c.args.stream.now / 40 =
    omega (arith, c.loop-place-test.true, ap length c.as_slice-size.ensures.bytes) in
    rw (passed_on _ _ c.from_residual-in_err-write_line.ensures.1)
    (inr (so_far_cut _ _ _ _ _ _ _ _ _ (section_next _ _ within) c.loop-place.invariant.written
    (row_written _ _ _ _ _ _ _ c.in_err-write_line.ensures c.show_section.ensures c.begin.ensures)))
