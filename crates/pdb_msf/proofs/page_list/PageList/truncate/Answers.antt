use Rattle.std.proofs.Common.{◌≡◌, ℕ, ◌+◌, ◌-◌, [], ◌∷◌, ◌++◌, length, arith, ap, sym, ◌∙◌, List}
use Rattle.pdb_msf.specs.declared.source.SourceSlice.{SourceSlice}
use Rattle.pdb_msf.specs.Source.{positions}
use Rattle.pdb_msf.specs.PageList.{first_bytes_of}
use Rattle.pdb_msf.proofs.PositionLemmas.{length-positions_push}
use Rattle.pdb_msf.proofs.SliceLemmas.{first_of_all, first_of_fewer, first_of_cut, positions_first_of}
use Rattle.pdb_msf.proofs.page_list.PageList.truncate.Goals as goal

pub overflow_sub-self : goal.overflow_sub-self
overflow_sub-self c =
    let popped = ap (λ s. length (positions s)) c.in-Some.ensures.items in
    omega (arith, popped, length-positions_push c.pop.new.self.items c.in-Some.last, c.loop-self.invariant.counted)

pub loop-self-preserved-then-self-len : goal.loop-self-preserved-then-self-len
loop-self-preserved-then-self-len c =
    let n = c.args.len in
    let shorter = c.pop.new.self.items in
    let last = c.in-Some.last in
    let long = c.loop-self.self-inside.len in
    let popped = c.in-Some.ensures.items in
    let len : long ≡ length (positions shorter) + last.size = c.loop-self.invariant.counted
    ∙ ap (λ s. length (positions s)) popped ∙ length-positions_push shorter last in
    let kept : long - last.size ≡ length (positions shorter) = omega arith in
    let cut : List SourceSlice = shorter ++ record { offset = last.offset; size = n - length (positions shorter) }
    ∷ [] in
    let now : c.push_reserved.new.self.items ≡ cut = c.push_reserved.ensures.items
    ∙ ap (λ (k : ℕ). shorter ++ record { offset = last.offset; size = n - k } ∷ []) kept in
    let whole : length (positions cut) ≡ n = length-positions_push shorter
    (record { offset = last.offset; size = n - length (positions shorter) }) ∙ omega arith in
    record {
      counted = sym (ap (λ s. length (positions s)) now ∙ whole);
      front = ap (first_bytes_of n) now ∙ first_of_all n cut (omega arith)
          ∙ sym (first_of_cut n shorter last (omega arith) (omega arith)) ∙ sym (ap (first_bytes_of n) popped)
          ∙ c.loop-self.invariant.front;
      page_size = c.loop-self.invariant.page_size;
      page_size_fits = c.loop-self.invariant.page_size_fits;
      marked = c.loop-self.invariant.marked;
    }

pub loop-self-preserved : goal.loop-self-preserved
loop-self-preserved c =
    let n = c.args.len in
    let shorter = c.pop.new.self.items in
    let last = c.in-Some.last in
    let popped = c.in-Some.ensures.items in
    let len : c.loop-self.self-inside.len ≡ length (positions shorter) + last.size = c.loop-self.invariant.counted
    ∙ ap (λ s. length (positions s)) popped ∙ length-positions_push shorter last in
    record {
      counted = omega arith;
      front = first_of_fewer n shorter last (omega arith) (omega arith) ∙ sym (ap (first_bytes_of n) popped)
          ∙ c.loop-self.invariant.front;
      page_size = c.loop-self.invariant.page_size;
      page_size_fits = c.loop-self.invariant.page_size_fits;
      marked = c.loop-self.invariant.marked;
    }

pub returns : goal.returns
returns c =
    let n = c.args.len in
    let slices = c.loop-self.self-inside.slices.items in
    let all : slices ≡ first_bytes_of n c.args.self.now.slices =
    sym (first_of_all n slices (omega (arith, c.loop-self.invariant.counted))) ∙ c.loop-self.invariant.front in
    record { slices = cc; positions = ap positions all ∙ positions_first_of n c.args.self.now.slices }
