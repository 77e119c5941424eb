-- Infos that are put in their order leave the last of each member.
use Rattle.std.proofs.Common.{◌≡◌, List, [], ◌∷◌, ◌++◌, not, append-nil, append_assoc, refl, ap, sym, ◌∙◌, inl, inr, arith}
use Rattle.std.specs.List.{filter}
use Rattle.std.proofs.lemmas.Bool.{cases_Bool}
use Rattle.std.proofs.lemmas.Bool.Decides.{nat_tests}
use Rattle.std.proofs.lemmas.List.Elements.{filter-append}
use Rattle.pgp_ids.specs.Member.{is_same_member}
use Rattle.pgp_ids.specs.declared.member.Member.{Member}
use Rattle.pgp_ids.specs.declared.report.Info.{Info}
use Rattle.pgp_info.specs.Heard.{without, with_info, with_infos, has_member, last_of_each_member}

same_turned : (a b : Member) → is_same_member a b ≡ is_same_member b a
same_turned a b = grind (arith, nat_tests)

-- the infos of members that none of the others has
abbrev without_all : List Info → List Info → List Info
without_all others infos = filter (λ info. not (has_member info.member others)) infos

kept_all : (infos : List Info) → without_all [] infos ≡ infos
kept_all [] = refl
kept_all (x ∷ xs) = ap (λ zs. x ∷ zs) (kept_all xs)

without_more : (x : Info) (others infos : List Info) → without_all others (without x.member infos) ≡ without_all (x ∷ others) infos
without_more x others [] = refl
without_more x others (y ∷ ys) =
    grind (arith, cases_Bool (is_same_member y.member x.member), cases_Bool (has_member y.member others), same_turned x.member y.member, without_more x others ys)

one_more : (x : Info) (xs : List Info) → without_all xs (x ∷ []) ++ last_of_each_member xs ≡ last_of_each_member (x ∷ xs)
one_more x xs = elim (cases_Bool (has_member x.member xs)) [ inl has ↦ rw has refl | inr has ↦ rw has refl ]

put_after : (new infos : List Info) → with_infos new infos ≡ without_all new infos ++ last_of_each_member new
put_after [] infos = sym (append-nil (without_all [] infos) ∙ kept_all infos)
put_after (x ∷ xs) infos =
    let parts = filter-append (λ info. not (has_member info.member xs)) (without x.member infos) (x ∷ []) in
    let joined = append_assoc (without_all xs (without x.member infos)) (without_all xs (x ∷ [])) (last_of_each_member xs) in
    grind (arith, put_after xs (with_info x infos), parts, joined, without_more x xs infos, one_more x xs)

pub put_in_order : (infos : List Info) → with_infos infos [] ≡ last_of_each_member infos
put_in_order infos = put_after infos []
