use Rattle.std.proofs.Common.{◌≡◌, ◌∙◌, ◌==◌, List, [], ◌∷◌, true, length, map, string_bytes, refl, sym, ap, arith}
use Rattle.std.proofs.lemmas.Bool.Decides.{nat_tests}
use Rattle.std.proofs.lemmas.Result.{IfOk-weaker}
use Rattle.pdb_cli.proofs.ChannelLemmas.{shown_of_nothing}
use Rattle.pdb_cli.proofs.channels.act_on.Goals as goal

-- a list without length has no item
none_of : {A : Type 0} (xs : List A) → (length xs == 0) ≡ true → xs ≡ []
none_of [] empty = refl
none_of (x ∷ xs) empty = absurd (grind (arith, nat_tests))

pub returns-then-is_empty-clause-shown : goal.returns-then-is_empty-clause-shown
returns-then-is_empty-clause-shown g c =
    let none = ap (map string_bytes) (none_of c.args.words.now (sym c.is_empty.ensures ∙ c.if-is_empty.true)) in
    IfOk-weaker c.act.result _ _ (λ outcome shown. shown_of_nothing _ _ outcome none shown) c.act.ensures.ok
