use Rattle.std.proofs.Common.{◌≡◌, List, [], ◌∷◌, ℕ, Bool, ◌||◌, Bor, bytes_eq, refl, ap, ◌∙◌}
use Rattle.std.specs.List.{list_any}
use Rattle.pgp_lines.proofs.Keys.{texts}
use Rattle.pgp_lines.proofs.command.objects.is_one_of.Goals as goal

any_text : (test : List ℕ → Bool) (keys : List (Bor (List ℕ))) → list_any (λ k. test k.now) keys ≡ list_any test (texts keys)
any_text test [] = refl
any_text test (k ∷ keys) = ap (λ rest. test k.now || rest) (any_text test keys)

pub returns : goal.returns
returns c = c.contains.ensures.value ∙ any_text (λ k. bytes_eq k c.args.key.now) c.args.keys.now
