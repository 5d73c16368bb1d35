use Rattle.std.proofs.Common.{◌≡◌, ◌<◌, ℕ, false, List, vec_capacity, [], ◌∷◌, ◌++◌, ap, ◌∙◌, arith, inl, inr}
use Rattle.std.specs.Prelude.{IsTrue}
use Rattle.std.proofs.lemmas.Bool.{cases_lt, false≢true}
use Rattle.pdb_tpi.specs.declared.header.Header.{Header}
use Rattle.pdb_tpi.specs.Table.{count_in_header}
use Rattle.pdb_tpi.proofs.FinderLemmas.{places_none, places_first}
use Rattle.pdb_tpi.proofs.item_information.ItemInformation.positions.Goals.{then-not-is_empty, else-not-is_empty}
use Rattle.pdb_tpi.proofs.item_information.ItemInformation.positions.Goals as goal

-- a table that isn't empty counts an index
some : (count : ℕ) → (count ≡ 0 → IsTrue false) → 0 < count
some count not = elim (cases_lt 0 count) [ inl is ↦ is | inr none ↦ absurd (false≢true (not (omega arith))) ]

pub returns-clause-places : goal.returns-clause-places
returns-clause-places g c = elim c.if-not-is_empty.branch [
  | then-not-is_empty w ↦
      let places = places_first c.args.self.now (vec_capacity w.push_reserved.new.self) c.header-header.ensures.sound
      (some (count_in_header c.args.self.now) w.if-not-is_empty.ensures.1)
      (omega (arith, c.most_blocks.ensures, c.in_ok-positions.ensures.exact, w.push_reserved.ensures.capacity)) in
      let items : w.push_reserved.new.self.items ≡ c.args.self.now.header.header_size ∷ [] =
      w.push_reserved.ensures.items ∙ ap (λ (l : List ℕ). l ++ c.header-header.result.header_size
      ∷ []) c.in_ok-positions.ensures.items
      ∙ ap (λ (h : Header). h.header_size ∷ []) c.header-header.ensures.header in
      rw (w.positions-is, items) places
  | else-not-is_empty w ↦
      rw (w.positions-is, c.in_ok-positions.ensures.items)
      (places_none c.args.self.now (vec_capacity c.in_ok-positions.positions)
      (omega (arith, c.most_blocks.ensures, c.in_ok-positions.ensures.exact)))
]
