use Rattle.std.proofs.Common.{◌≡◌, ℕ, ◌*◌, ◌^◌, ◌<◌, ◌≤◌, length, List, map, take, arith, ap, sym, ◌∙◌}
use Rattle.std.specs.List.{range_with_len}
use Rattle.std.proofs.lemmas.List.FromFn.{length-map-range_with_len}
use Rattle.std.proofs.lemmas.List.{length-take-le, take_all}
use Rattle.std.proofs.lemmas.Nat.{mul-le}
use Rattle.pdb_msf.specs.declared.source.SourceSlice.{SourceSlice}
use Rattle.pdb_msf.specs.Source.{positions}
use Rattle.pdb_msf.specs.Pages.{position_of}
use Rattle.pdb_base.proofs.lemmas.Collected.{ok}
use Rattle.pdb_msf.proofs.PageLemmas.{all_positions, length-all_positions, positions_by_index}
use Rattle.pdb_msf.proofs.scattered.page_list.Goals as goal

-- 2^40 pages of at most 2^23 bytes have fewer than 2^64
pub push-requires-clause-room : goal.push-requires-clause-room
push-requires-clause-room c =
    let numbers = c.args.numbers.now in
    let i = c.loop-number.number-index in
    let few : i * c.args.page_size ≤ 2 ^ 40 * 0x800000 =
    mul-le i c.args.page_size (2 ^ 40) 0x800000 (omega arith) (omega arith) in
    let len : length (positions c.loop-number.list.slices) ≡ i * c.args.page_size =
    ap length c.loop-number.invariant.positions
    ∙ length-all_positions c.args.page_size (take i numbers)
    ∙ ap (λ (n : ℕ). n * c.args.page_size) (length-take-le i numbers (omega arith)) in
    let size = c.loop-number.invariant.page_size in
    omega arith

positions_are : (page_size size i : ℕ) (numbers : List ℕ) (slices : List SourceSlice)
    → positions slices ≡ all_positions page_size (take i numbers) → length numbers ≤ i → 0 < page_size
    → size ≤ length numbers * page_size → take size (positions slices)
    ≡ map (position_of page_size numbers) (range_with_len 0 size)
positions_are page_size size i numbers slices listed all positive reached =
    ap (take size) (listed ∙ ap (all_positions page_size) (take_all i numbers all))
    ∙ positions_by_index page_size numbers size positive reached

pub returns : goal.returns
returns c =
    let is = c.truncate.ensures.positions
    ∙ positions_are c.args.page_size c.args.size c.loop-number.number-index c.args.numbers.now
    c.loop-number.list.slices c.loop-number.invariant.positions c.loop-number-test.false c.requires.size.0
    c.requires.reached in
    record {
      positions = ap (λ (at : List ℕ). ok at) (sym is);
      len = ap length is ∙ length-map-range_with_len (position_of c.args.page_size c.args.numbers.now) 0 c.args.size;
    }
