-- `end` lets go of a pointer that owns nothing.
use mathlib.Core.Path.{◌≡◌, refl, sym, subst}
use mathlib.Core.List.{List, [], ◌∷◌, ◌++◌}
use Rattle.std.specs.Prelude.{None}
use mir.Syntax.{impl, tnil, dnil}
use mir.Val.{Val, vunit}
use base.Logic.{ent}
use base.Fml.{ftrue, fsep}
use prog.Wp.{WpFn}
use contract.Monad.{fact}
use contract.Running.{tables}
use types.Kit.{‵, raw, ◌⊛◌, ◌$◌, ◌∵◌, !, qed, by, move, drop, join, split, fsplit, fjoin, feq_i, suffices, done}
use types.Run.{of_opd, unit_lit, returns, enter}
use types.ByLocal.{alloc_all, pass_all, free_all, look_at, sets}
use denote.Exit.{yes}
use denote.Signature.{plain}
use denote.Steps.{nothing}
use denote.Triple.Walked.{Stays, stay_dropped, walk_of, ends_at, Goes-dropped}
use Rattle.std.proofs.raw_atomic.Walks.{proved_at}
use Rattle.core.proofs.alloc.Calls.{Al, handle_tells}
use Rattle.std_heap.specs.contracts.GlobalAllocator.TheImpl.{dict}
use Rattle.pgp_c.specs.contracts.held_session.HeldSession as HeldSession
use Rattle.pgp_c.proofs.held_session.HeldSession.TheLaws as held
use Rattle.pgp_c.specs.contracts.held_session.HeldSession.end as F
use Rattle.pgp_c.specs.contracts.held_session.HeldSession.end.Key.{name as #self}
use Rattle.pgp_c.proofs.held_session.HeldSession.end.Statement as stated
use Rattle.pgp_c.proofs.held_session.HeldSession.end.Code as code

abbrev Held : Al
Held = record { row = HeldSession.the_row; laws = held.the_row_laws; g = record { dealloc_token = λ a σ p. ftrue }; d = dict; drops = impl [] tnil dnil }

pub end_spec : {M : Type 1} → stated.statement M
end_spec 𝓤 𝓛 𝓜 𝓡 wired =
    let H = 𝓛.H in let 𝓣 = tables 𝓤 H 𝓜 𝓡 𝓡.env in let c = F.clauses 𝓛 𝓜.mem 𝓡.returns in
    let stayed : Stays (F.ended).signature.params (F.ended).kept = (stay_dropped (plain (λ _. HeldSession.the_row)) yes, tt) in
    proved_at 𝓛 F.ended stayed c 𝓜 𝓡 (Goes-dropped 𝓛 0 (plain (λ _. HeldSession.the_row)) yes (λ κs x f. refl), tt) #self code.function (code.unfolded 𝓤 H 𝓜 𝓡 wired) (λ z are.
    let Post = (walk_of 𝓛 F.ended stayed c).post z in
    qed 𝓛 ((‵ ftrue ⊛ ‵ (fsep ((HeldSession.the_row).own_val z.0.3.0 z.0.4.0) ftrue)) ∷ raw (fact 𝓤 (z.0.3.0.session ≡ None)) ∷ []) ∵ split ! $ drop ! $ fsplit ! $
    handle_tells Held ! z.0.3.0 z.0.4.0 (λ w ew fw. drop ! $ drop ! $ drop ! $
    by ! (subst (λ (us : List Val). ent 𝓤 (types.Kit.⋆ 𝓛 []) (WpFn 𝓤 H 𝓣.C 𝓣.Λ code.function (us ++ []) Post)) (sym ew)
    (qed 𝓛 [] ∵ enter ! 𝓣.C 𝓣.Λ code.function (w ∷ []) _ $ alloc_all ! (λ ls. pass_all ! refl (fw, tt) $
    sets ! (of_opd ! (unit_lit !)) refl (tt, tt) $ returns ! (look_at ! 0 refl) $ free_all ! refl $
    suffices ! _ (ends_at 𝓛 F.ended stayed c z vunit tt (tt, tt) (tt, tt)) $
    feq_i ! (List Val) (vunit ∷ []) (vunit ∷ []) refl $ nothing ! $ nothing ! $ fjoin ! $ join ! $ nothing ! $ join ! $ nothing ! $ move ! (1 ∷ 0 ∷ []) $ join ! $ done !)))))
