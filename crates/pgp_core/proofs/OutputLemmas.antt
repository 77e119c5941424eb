-- What has gone out after one write more, and after two texts.
use Rattle.std.proofs.Common.{◌≡◌, ℕ, List, [], ◌++◌, Option, refl, sym, ap, ◌∙◌, append_assoc, append-nil, take, drop, take-append-drop, subst}
use Rattle.std.specs.Io.KnownBytes.{Appends}
use Rattle.std.proofs.KnownBytes.{Appends-trans}
use Rattle.pgp_core.specs.Output.{WrittenPart, FrontWent}
use Rattle.pgp_core.specs.Telling.{WentBy}
use Rattle.pgp_core.specs.declared.fault.ScriptFault.{ScriptFault}
use Rattle.pgp_core.specs.declared.fault.ScriptFault.TheVariants.{Read, Write, Gone}

-- a front of what was pending went out
pub WrittenPart-on : (a b c : Option (List ℕ)) (text pending still : List ℕ) → WrittenPart a b text pending → WrittenPart b c pending still → WrittenPart a c text still
WrittenPart-on a b c text pending still before more = record {
  out = before.out ++ more.out;
  whole = append_assoc before.out more.out still ∙ ap (λ l. before.out ++ l) more.whole ∙ before.whole;
  went = Appends-trans a b c before.out more.out before.went more.went;
}

-- more text after it is pending too
pub WrittenPart-longer : (a b : Option (List ℕ)) (text pending more : List ℕ) → WrittenPart a b text pending → WrittenPart a b (text ++ more) (pending ++ more)
WrittenPart-longer a b text pending more before = record {
  out = before.out;
  whole = sym (append_assoc before.out pending more) ∙ ap (λ l. l ++ more) before.whole;
  went = before.went;
}

pub WrittenPart-more : (a b c : Option (List ℕ)) (text rest : List ℕ) (n : ℕ) → WrittenPart a b text rest → Appends b c (take n rest) → WrittenPart a c text (drop n rest)
WrittenPart-more a b c text rest n before more = WrittenPart-on a b c text rest (drop n rest) before (record { out = take n rest; whole = take-append-drop n rest; went = more })

-- a front of what was pending went out, and then a write failed
pub FrontWent-pending : (a b c : Option (List ℕ)) (text pending : List ℕ) → WrittenPart a b text pending → FrontWent b c pending → FrontWent a c text
FrontWent-pending a b c text pending before more = record { rest = more.rest; front = WrittenPart-on a b c text pending more.rest before more.front }

-- more text after it doesn't matter
pub FrontWent-longer : (a b : Option (List ℕ)) (text more : List ℕ) → FrontWent a b text → FrontWent a b (text ++ more)
FrontWent-longer a b text more front = record { rest = front.rest ++ more; front = WrittenPart-longer a b text front.rest more front.front }

-- after a text that went out whole
pub FrontWent-after : (a b c : Option (List ℕ)) (first text : List ℕ) → Appends a b first → FrontWent b c text → FrontWent a c (first ++ text)
FrontWent-after a b c first text all front = FrontWent-pending a b c (first ++ text) text (record { out = first; whole = refl; went = all }) front

-- what was pending has been written
pub WrittenPart-flushed : (a b c : Option (List ℕ)) (text pending : List ℕ) → WrittenPart a b text pending → Appends b c pending → Appends a c text
WrittenPart-flushed a b c text pending before rest = subst (Appends a c) before.whole (Appends-trans a b c before.out pending before.went rest)

pub WrittenPart-none : (a b : Option (List ℕ)) (text : List ℕ) → Appends a b text → WrittenPart a b text []
WrittenPart-none a b text went = record { out = text; whole = append-nil text; went = went }

-- what was pending was written, and then the text
pub WrittenPart-direct : (a b c : Option (List ℕ)) (pending text still : List ℕ) → still ≡ [] → Appends a b pending → Appends b c text → WrittenPart a c (pending ++ text) still
WrittenPart-direct a b c pending text still none first then =
    rw none (WrittenPart-none a c (pending ++ text) (Appends-trans a b c pending text first then))

-- what was pending went out as far as the fault let it
pub WentBy-pending : (fault : ScriptFault) (a b c : Option (List ℕ)) (text pending : List ℕ) → WrittenPart a b text pending → WentBy fault b c pending → WentBy fault a c text
WentBy-pending Read a b c text pending before rest = WrittenPart-flushed a b c text pending before rest
WentBy-pending Write a b c text pending before front = FrontWent-pending a b c text pending before front
WentBy-pending Gone a b c text pending before rest = WrittenPart-flushed a b c text pending before rest
