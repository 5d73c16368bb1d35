use Rattle.std.proofs.Common.{rules, ◌≡◌, ℕ, ◌/◌, ◌^◌, ◌<◌, min, List, [], ◌∷◌, ◌++◌, length, drop, map, ap, sym, ◌∙◌}
use Rattle.std.proofs.Common.{arith}
use Rattle.std.specs.List.{range_with_len}
use Rattle.std.proofs.lemmas.List.FromFn.{map-range_with_len_more}
use Rattle.std.proofs.lemmas.List.{length-drop}
use Rattle.pdb_base.specs.Place.{Place, left}
use Rattle.pdb_msf.specs.Pages.{words}
use Rattle.pdb_msf.specs.Directory.{sizes_of, start_of}
use Rattle.pdb_msf.proofs.WordLemmas.{next_word, no_word, word_past}
use Rattle.pdb_msf.proofs.PlaceLemmas.{count_is, known_is, next_start, no_starts}
use Rattle.pdb_msf.proofs.directory.starts_of.Goals as goal

pub returns-in_default-clause-starts : goal.returns-in_default-clause-starts
returns-in_default-clause-starts c =
    let front : words (left c.from-buffer.result) ≡ drop 0 (words c.args.directory.now) =
    ap (λ (p : Place). words (left p)) c.from-buffer.ensures in
    let none = no_word (words c.args.directory.now) 0 _ _ front c.in_default.ensures.read in
    c.new.ensures.items ∙ sym (no_starts c.args.geometry.page_size c.args.directory.now none.0)

pub loop-init : goal.loop-init
loop-init c =
    let front : words (left c.from-buffer.result) ≡ drop 0 (words c.args.directory.now) =
    ap (λ (p : Place). words (left p)) c.from-buffer.ensures in
    let count = next_word (words c.args.directory.now) 0 _ _ front c.in-Ok.ensures.read in
    record {
      rest = count.1;
      so_far = c.in_ok-starts.ensures.items;
      here = omega arith;
      few = let fits : c.in-Ok.count < 2 ^ 32 = search rules in omega arith;
      counted = c.in_ok-starts.ensures.len;
      room = c.in_ok-starts.ensures.exact;
    }

pub returns-in_err-size-clause-memory : goal.returns-in_err-size-clause-memory
returns-in_err-size-clause-memory c =
    let front : words (left c.from-buffer.result) ≡ drop 0 (words c.args.directory.now) =
    ap (λ (p : Place). words (left p)) c.from-buffer.ensures in
    let count = next_word (words c.args.directory.now) 0 _ _ front c.in-Ok.ensures.read in
    let none = no_word (sizes_of c.args.directory.now) c.loop.counter _ _ c.loop.invariant.rest
    c.in_err-size.ensures.read in
    let past = word_past (sizes_of c.args.directory.now) c.loop.counter none.0 in
    let known = known_is c.args.directory.now _ c.in-Ok.count c.min-known.result count.1
    (c.min-known.ensures ∙ ap (λ (n : ℕ). min c.in-Ok.count (n / 4)) c.len.ensures) in
    absurd (omega (arith, past, known, c.loop-test.true))

pub push_reserved-requires : goal.push_reserved-requires
push_reserved-requires c = let i = c.loop.invariant in omega (arith, i.counted, i.room, c.loop-test.true)

pub overflow_add-start-in-loop : goal.overflow_add-start-in-loop
overflow_add-start-in-loop c =
    let i = c.loop.invariant in
    let place = c.in-Ok.ensures.place in
    let slice : c.parse_u32.new.self.slice ≡ c.args.directory.now = place.slice
    ∙ ap (λ (p : Place). p.slice) c.from-buffer.ensures in
    let shorter = length-drop c.parse_u32.new.self.pos c.parse_u32.new.self.slice in
    let known : c.loop.counter < 2 ^ 32 = omega
    (arith, c.loop-test.true, c.min-known.ensures, c.len.ensures, shorter, ap length slice, c.requires.short) in
    omega (arith, i.few, c.pages_taken.ensures.few)

pub loop-preserved : goal.loop-preserved
loop-preserved c =
    let i = c.loop.invariant in
    let next = next_word (sizes_of c.args.directory.now) c.loop.counter _ _ i.rest c.in_ok-size.ensures.read in
    let f = start_of c.args.geometry.page_size c.in-Ok.count c.args.directory.now in
    record {
      rest = next.1;
      so_far = c.push_reserved.ensures.items
          ∙ ap (λ (s : List ℕ). s ++ c.loop.start ∷ []) i.so_far
          ∙ ap (λ (n : ℕ). map f (range_with_len 0 c.loop.counter) ++ n ∷ []) i.here
          ∙ sym (map-range_with_len_more f 0 c.loop.counter c.loop.counter (omega arith));
      here = omega (
        arith,
        i.here,
        c.pages_taken.ensures.pages,
        next_start c.args.geometry.page_size c.in-Ok.count c.loop.counter c.in_ok-size.size c.args.directory.now
            next.0,
      );
      few = omega (arith, i.few, c.pages_taken.ensures.few);
      counted = omega (arith, c.push_reserved.ensures.len, i.counted);
      room = c.push_reserved.ensures.capacity ∙ i.room;
    }

pub returns-clause-starts : goal.returns-clause-starts
returns-clause-starts c =
    let d = c.args.directory.now in
    let front : words (left c.from-buffer.result) ≡ drop 0 (words d) =
    ap (λ (p : Place). words (left p)) c.from-buffer.ensures in
    let count = next_word (words d) 0 _ _ front c.in-Ok.ensures.read in
    let known = known_is d _ c.in-Ok.count c.min-known.result count.1
    (c.min-known.ensures ∙ ap (λ (n : ℕ). min c.in-Ok.count (n / 4)) c.len.ensures) in
    let all : c.loop.counter ≡ min c.in-Ok.count (length (sizes_of d)) =
    omega (arith, known, c.loop-test.false, c.loop.auto.counter-end) in
    c.loop.invariant.so_far
    ∙ ap (λ (n : ℕ). map (start_of c.args.geometry.page_size c.in-Ok.count d) (range_with_len 0 n)) all
    ∙ ap (λ (k : ℕ). map (start_of c.args.geometry.page_size k d) (range_with_len 0 (min k (length (sizes_of d)))))
    (sym (count_is d c.in-Ok.count count.0))
