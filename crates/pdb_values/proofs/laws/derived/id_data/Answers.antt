use Rattle.std.proofs.Common.{ap}
use Rattle.std.proofs.lemmas.Bool.{false≢true}
use Rattle.pdb_values.specs.declared.id_data.IdData.TheVariants as ids
use Rattle.pdb_values.specs.IdValue.{plain, build_info, string_list}
use Rattle.pdb_values.specs.IdValue as values
use Rattle.pdb_values.proofs.laws.derived.id_data.Goals as goal

pub returns : goal.returns
returns c (ids.Function a) (ids.Function b) =
    let same = c.ids.ensures.functions a b in (
      λ holds. ap (λ x. plain (values.function x)) (same.0 holds),
      λ is. same.1 cc,
    )
returns c (ids.MemberFunction a) (ids.MemberFunction b) =
    let same = c.ids.ensures.member_functions a b in (
      λ holds. ap (λ x. plain (values.member_function x)) (same.0 holds),
      λ is. same.1 cc,
    )
returns c (ids.BuildInfo a) (ids.BuildInfo b) =
    let same = c.lists.ensures.build_infos a b in (λ holds. ap build_info (same.0 holds), λ is. same.1 cc)
returns c (ids.StringList a) (ids.StringList b) =
    let same = c.lists.ensures.texts a b in (λ holds. ap string_list (same.0 holds), λ is. same.1 cc)
returns c (ids.String a) (ids.String b) =
    let same = c.ids.ensures.texts a b in (λ holds. ap (λ x. plain (values.string x)) (same.0 holds), λ is. same.1 cc)
returns c (ids.UserDefinedTypeSource a) (ids.UserDefinedTypeSource b) =
    let same = c.ids.ensures.sources a b in (
      λ holds. ap (λ x. plain (values.user_defined_type_source x)) (same.0 holds),
      λ is. same.1 cc,
    )
returns c a b = (λ holds. absurd (false≢true holds), λ is. absurd cc)
