use Rattle.std.proofs.Common.{◌≡◌, ◌+◌, ℕ, refl, ap, sym, ◌∙◌, arith, rules, inl, List, drop, map, Result, Ok, Err}
use Rattle.std.proofs.Common.{Vec, Global}
use Rattle.pdb_base.specs.declared.error.Error.{Error}
use Rattle.std.specs.List.{range_with_len}
use Rattle.pdb_base.specs.Place.{left}
use Rattle.pdb_base.specs.Answer.{values_of_all}
use Rattle.pdb_base.proofs.lemmas.Refused.{passed_on}
use Rattle.pdb_base.specs.Refusal.{refusal_of}
use Rattle.pdb_msf.specs.Pages.{words, page_number, page_numbers}
use Rattle.pdb_msf.proofs.WordLemmas.{next_word, no_word}
use Rattle.pdb_base.proofs.lemmas.Collected.{collected_more, collected_stops}
use Rattle.pdb_msf.proofs.ExactLemmas.{first_there, first_refused}
use Rattle.pdb_msf.proofs.header.Geometry.page_numbers.Goals as goal

pub loop-preserved : goal.loop-preserved
loop-preserved c =
    let all = words (left c.args.buffer.now) in
    let next = next_word all c.loop.counter _ _ c.loop.invariant.rest c.in_ok-word.ensures.read in
    let here : page_number c.args.self.pages_used all c.loop.counter ≡ Ok c.in_ok-number.number =
    rw next.0 c.in_ok-number.ensures in
    record {
      rest = next.1;
      so_far = collected_more (page_number c.args.self.pages_used all) c.loop.counter c.loop.numbers.items
          c.in_ok-number.number c.loop.invariant.so_far here
          ∙ ap (λ (numbers : List ℕ). Ok numbers) (sym c.in_ok-push.ensures.items);
      counted = omega (arith, c.in_ok-push.ensures.len, c.loop.invariant.counted);
    }

pub returns-in_err-word : goal.returns-in_err-word
unfolding page_numbers
returns-in_err-word c =
    let all = words (left c.args.buffer.now) in
    let fault = c.in_err-word.field-0.0 in
    let passed = passed_on _ _ c.from_residual.ensures.1 in
    let none = no_word all c.loop.counter _ _ c.loop.invariant.rest c.in_err-word.ensures.read in
    let here : page_number c.args.self.pages_used all c.loop.counter ≡ Err (refusal_of fault) =
    rw (none.0, none.1) refl in
    record {
      numbers = rw passed (inl (collected_stops (page_number c.args.self.pages_used all) c.loop.counter c.args.count
          c.loop.numbers.items _ c.loop-test.true c.loop.invariant.so_far here));
      count = search rules;
      rest = search rules;
      exact = rw passed (first_refused (Vec ℕ Global) c.args.self.pages_used c.args.count c.loop.counter all _ _
          c.loop-test.true c.loop.invariant.so_far here);
    }

pub returns-in_err-number : goal.returns-in_err-number
unfolding page_numbers
returns-in_err-number c =
    let all = words (left c.args.buffer.now) in
    let fault = c.in_err-number.field-0.0 in
    let passed = passed_on _ _ c.from_residual-in_err-number.ensures.1 in
    let next = next_word all c.loop.counter _ _ c.loop.invariant.rest c.in_ok-word.ensures.read in
    let here : page_number c.args.self.pages_used all c.loop.counter ≡ Err (refusal_of fault) =
    rw next.0 c.in_err-number.ensures in
    record {
      numbers = rw passed (inl (collected_stops (page_number c.args.self.pages_used all) c.loop.counter c.args.count
          c.loop.numbers.items _ c.loop-test.true c.loop.invariant.so_far here));
      count = search rules;
      rest = search rules;
      exact = rw passed (first_refused (Vec ℕ Global) c.args.self.pages_used c.args.count c.loop.counter all _ _
          c.loop-test.true c.loop.invariant.so_far here);
    }

-- the first number is checked before anything is allocated
pub returns-in_err-push-clause-exact : goal.returns-in_err-push-clause-exact
returns-in_err-push-clause-exact c =
    let all = words (left c.args.buffer.now) in
    let next = next_word all c.loop.counter _ _ c.loop.invariant.rest c.in_ok-word.ensures.read in
    let here : page_number c.args.self.pages_used all c.loop.counter ≡ Ok c.in_ok-number.number =
    rw next.0 c.in_ok-number.ensures in
    first_there c.args.self.pages_used c.args.count (c.loop.counter + 1) all _ _
    (collected_more (page_number c.args.self.pages_used all) c.loop.counter c.loop.numbers.items
    c.in_ok-number.number c.loop.invariant.so_far here) (omega arith)

pub returns : goal.returns
unfolding page_numbers
returns c =
    let all = words (left c.args.buffer.now) in
    let answered : Result (Vec ℕ Global) Error = Ok c.loop.numbers in
    let end : c.args.count ≡ c.loop.counter = omega arith in
    record {
      numbers =
          ap (λ (n : ℕ). values_of_all (map (page_number c.args.self.pages_used all) (range_with_len 0 n))) end
          ∙ c.loop.invariant.so_far;
      count = search rules;
      rest = c.loop.invariant.rest ∙ ap (λ (n : ℕ). drop n all) (sym end);
      exact = first_there c.args.self.pages_used c.args.count c.loop.counter all _ answered c.loop.invariant.so_far
          (omega arith);
    }
