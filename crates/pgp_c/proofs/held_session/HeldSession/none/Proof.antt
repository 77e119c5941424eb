-- `none` owns nothing: its pointer is null.
use mathlib.Core.Path.{refl, sym, subst}
use mathlib.Core.List.{List, [], ◌∷◌, ◌++◌}
use Rattle.std.specs.Prelude.{None}
use lib.Dec.{lit<}
use mir.Syntax.{w64}
use mir.Val.{Val, vint, vstruct, vcons, vnil, has_ty}
use base.Logic.{ent, emp, id⊢}
use base.Fml.{ftrue, fsep}
use prog.Wp.{WpFn}
use contract.Running.{tables}
use types.Kit.{Item, ‵, raw, ◌⊛◌, ◌$◌, ◌∵◌, !, qed, by, move, drop, use1, join, split, fsplit, fjoin, fpack, feq_i, suffices, done}
use types.Part.{agg}
use types.Run.{lit, no_more, and_then, returns, enter}
use types.ByLocal.{alloc_all, pass_all, free_all, look_at, get, sets}
use denote.Exit.{yes}
use denote.RattleType.{Valss}
use denote.Builtin.{RawPtr}
use denote.RawPtr.{null_ptr}
use denote.Signature.{type_at, plain}
use denote.Steps.{nothing}
use denote.Struct.Struct.{within}
use denote.Struct.Owning.{shape}
use denote.Triple.Walked.{says, Stays, stay_dropped, walk_of, ends_at, Goes-dropped}
use Rattle.std.proofs.raw_atomic.Walks.{proved_at}
use Rattle.core.proofs.alloc.Calls.{α, handle_tells}
use Rattle.std_heap.specs.contracts.Global as Heap
use Rattle.std_alloc.proofs.ResultValues.{and_tt}
use Rattle.pgp_c.proofs.AsBox.{E}
use Rattle.std_alloc.proofs.BoxSteps.Form.{P, owning}
use Rattle.pgp_c.specs.contracts.held_session.HeldSession.none as F
use Rattle.pgp_c.specs.contracts.held_session.HeldSession.none.Key.{name as #self}
use Rattle.pgp_c.proofs.held_session.HeldSession.none.Statement as stated
use Rattle.pgp_c.proofs.held_session.HeldSession.none.Code as code

abbrev word : Val → Val
word hv = vstruct (vcons (vint w64 0) (vcons hv vnil))

pub none_spec : {M : Type 1} → stated.statement M
none_spec 𝓤 𝓛 𝓜 𝓡 wired =
    let H = 𝓛.H in let 𝓣 = tables 𝓤 H 𝓜 𝓡 𝓡.env in let c = F.clauses 𝓛 𝓜.mem 𝓡.returns in
    let stayed : Stays (F.ended).signature.params (F.ended).kept = (stay_dropped (plain (λ _. Heap.the_row)) yes, tt) in
    proved_at 𝓛 F.ended stayed c 𝓜 𝓡 (Goes-dropped 𝓛 0 (plain (λ _. Heap.the_row)) yes (λ κs x f. refl), tt) #self code.function (code.unfolded 𝓤 H 𝓜 𝓡 wired) (λ z are.
    let Post = (walk_of 𝓛 F.ended stayed c).post z in
    let a = z.0.3.0 in
    let To = type_at (F.signature).result tt in
    let made : To.Denot = record { at = null_ptr; alloc = a; session = None } in
    qed 𝓛 ((‵ ftrue ⊛ ‵ (fsep (Heap.the_row.own_val a z.0.4.0) ftrue)) ∷ raw (emp 𝓤) ∷ []) ∵ split ! $ drop ! $ fsplit ! $
    handle_tells E.al ! a z.0.4.0 (λ hv ea fa. move ! (2 ∷ []) $ drop ! $
    let w = word hv in
    let Γ : List (Item 𝓤) = ‵ (Heap.the_row.own_val a (hv ∷ [])) ∷ ‵ ftrue ∷ [] in
    by ! (subst (λ (us : List Val). ent 𝓤 (types.Kit.⋆ 𝓛 Γ) (WpFn 𝓤 H 𝓣.C 𝓣.Λ code.function (us ++ []) Post)) (sym ea)
    (qed 𝓛 Γ ∵ enter ! 𝓣.C 𝓣.Λ code.function (hv ∷ []) _ $ alloc_all ! (λ ls. pass_all ! refl (fa, tt) $
    sets ! (agg ! (and_then ! (lit ! tt) (and_then ! (get ! refl) (no_more !)))) refl (and_tt (has_ty (α E.al) hv) fa.0, (record { fits = lit< tt }, (fa.1, tt))) $ returns ! (look_at ! 0 refl) $ free_all ! refl $
    move ! (1 ∷ 0 ∷ []) $ move ! (1 ∷ 0 ∷ []) $ fjoin ! $
    feq_i ! (List Val) (vint w64 0 ∷ []) (vint w64 0 ∷ []) refl $ fjoin ! $ feq_i ! (List Val) (w ∷ []) (w ∷ []) refl $ fjoin ! $
    fpack ! (Valss (RawPtr ∷ P E ∷ [])) (within (shape (owning E)) (null_ptr, (a, tt)) (w ∷ [])) (vint w64 0 ∷ [], (hv ∷ [], tt)) $
    nothing ! $ move ! (1 ∷ 0 ∷ []) $ fjoin ! $ use1 𝓛 (‵ (To.own_val made (w ∷ []))) (id⊢ 𝓤 _) $
    suffices ! _ (ends_at 𝓛 F.ended stayed c z w made (tt, tt) (tt, tt)) $ says ! refl $
    nothing ! $ nothing ! $ fjoin ! $ join ! $ nothing ! $ join ! $ done !)))))
