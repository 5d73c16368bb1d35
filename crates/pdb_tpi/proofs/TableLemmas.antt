-- A table that was read is sound, and its first item follows the header.
use Rattle.std.proofs.Common.{◌≡◌, ℕ, ◌-◌, ◌^◌, ◌≤◌, ◌<◌, Bool, true, false, leb, List, [], ◌∷◌, length, refl, ap}
use Rattle.std.proofs.Common.{subst, arith, Ok}
use Rattle.std.proofs.lemmas.Bool.{leb-true}
use Rattle.pdb_base.specs.Refusal.{Refusal}
use Rattle.pdb_base.specs.Answer.{Answer, ◌>>=◌, ok_if}
use Rattle.pdb_base.proofs.lemmas.Collected.{ok_is, bind_ok, required_holds}
use Rattle.pdb_tpi.specs.declared.header.Header.{Header}
use Rattle.pdb_tpi.specs.Header.{empty_header, header_fields, check_header, read_header_of, header_of}
use Rattle.pdb_tpi.specs.Table.{Table, IsTable}
use Rattle.pdb_tpi.specs.Walk.{items, rest}
use Rattle.pdb_tpi.specs.Steps.{room, body, walk, walk_rest}
use Rattle.pdb_tpi.specs.Place.{GoesOn, IsPlace}

-- what a header that was checked is known to be
pub record IsChecked (header : Header) (len : ℕ) : Type 0 where
  pub typed : 4096 ≤ header.minimum_index
  pub within : header.header_size ≤ len
  pub ordered : header.minimum_index ≤ header.maximum_index

then_required : {A : Type 0} (test : Bool) (e : Refusal) (more : Answer A) (x : A)
    → (ok_if test e >>= λ _. more) ≡ Ok x → (test ≡ true) × (more ≡ Ok x)
then_required true e more x h = (refl, h)
then_required false e more x h = absurd cc

checked_is : (header : Header) (len : ℕ) (x : Unit {0}) → check_header header len ≡ Ok x → IsChecked header len
unfolding check_header
checked_is header len x e =
    let least = then_required (leb 56 header.header_size) _ _ x e in
    let most = then_required (leb header.header_size 1024) _ _ x least.1 in
    let whole = then_required (leb header.header_size len) _ _ x most.1 in
    let typed = then_required (leb 4096 header.minimum_index) _ _ x whole.1 in
    let ordered = required_holds (leb header.minimum_index header.maximum_index) _ x typed.1 in
    record {
      typed = leb-true 4096 header.minimum_index typed.0;
      within = leb-true header.header_size len whole.0;
      ordered = leb-true header.minimum_index header.maximum_index ordered;
    }

read_is : (bytes : List ℕ) (header : Header) → read_header_of bytes ≡ Ok header → IsChecked header (length bytes)
unfolding read_header_of
read_is bytes header e =
    let fields = bind_ok (header_fields bytes)
    (λ fields. check_header fields.0 (length bytes) >>= λ _. Ok fields.0) header e in
    let good = bind_ok (check_header fields.0.0 (length bytes)) (λ _. Ok fields.0.0) header fields.2 in
    subst (λ (h : Header). IsChecked h (length bytes)) (ok_is fields.0.0 header good.2)
    (checked_is fields.0.0 (length bytes) good.0 good.1)

pub table_is : (bytes : List ℕ) (header : Header) → header_of bytes ≡ Ok header → header.maximum_index < 2 ^ 32
    → length bytes < 0xffffffff → IsTable (record { bytes = bytes; header = header })
unfolding header_of
table_is [] header e indexed short =
    subst (λ (h : Header). IsTable (record { bytes = []; header = h })) (ok_is empty_header header e) (record {
      within = omega arith;
      ordered = omega arith;
      typed = λ some. absurd (some refl);
      indexed = omega arith;
      short = short;
    })
table_is (byte ∷ bytes) header e indexed short =
    let is = read_is (byte ∷ bytes) header e in
    record { within = is.within; ordered = is.ordered; typed = λ some. is.typed; indexed = indexed; short = short }

-- the walk begins behind the header
goes_first : (table : Table) → GoesOn table 0 table.header.header_size
unfolding walk walk_rest
goes_first table =
    let all : room table ≡ room table - 0 = omega arith in
    record { items = ap (λ (n : ℕ). items n (body table)) all; rest = ap (λ (n : ℕ). rest n (body table)) all }

pub place_first : (table : Table) → IsTable table → IsPlace table table.header.minimum_index table.header.header_size
place_first table is =
    let none : table.header.minimum_index - table.header.minimum_index ≡ 0 = omega arith in
    let within = is.within in
    record {
      least = omega arith;
      reached = omega arith;
      far = omega arith;
      within = within;
      short = is.short;
      goes_on = rw none (goes_first table);
    }
