-- Where the first line feed stands.
use Rattle.std.proofs.Common.{◌≡◌, ℕ, zero, suc, ◌≤◌, List, [], ◌∷◌, false, length, take, take_all, refl, sym, ap, ◌∙◌, arith, inl, inr}
use Rattle.std.specs.List.{list_any}
use Rattle.std.proofs.lemmas.Bool.Decides.{eqb_tells}
use Rattle.memchr.specs.Find.{Nowhere, Passes, is_byte}
use Rattle.pgp_core.specs.Lines.{is_line_feed}

-- no line feed in the first n bytes
pub none_in_front : (n : ℕ) (bytes : List ℕ) → n ≤ length bytes → Nowhere (Passes (is_byte 10) bytes) 0 n → list_any is_line_feed (take n bytes) ≡ false
none_in_front zero bytes within nowhere = refl
none_in_front (suc n) [] within nowhere = refl
none_in_front (suc n) (byte ∷ bytes) within nowhere =
    elim (eqb_tells byte 10) [
      | inl feed ↦ absurd (nowhere 0 (omega arith) (omega arith) feed.0)
      | inr other ↦ rw other.0 (none_in_front n bytes (omega arith) (λ k low high. nowhere (suc k) (omega arith) (omega arith)))
    ]

-- no line feed at all
pub none_at_all : (bytes : List ℕ) → Nowhere (Passes (is_byte 10) bytes) 0 (length bytes) → list_any is_line_feed bytes ≡ false
none_at_all bytes nowhere = sym (ap (list_any is_line_feed) (take_all (length bytes) bytes (omega arith))) ∙ none_in_front (length bytes) bytes (omega arith) nowhere
