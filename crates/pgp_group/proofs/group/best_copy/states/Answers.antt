use Rattle.pgp_group.proofs.Common.{◌≡◌, ◌+◌, ◌++◌, [], ◌∷◌, List, Some, None, true, false, ap, map, refl, subst, sym, take, ◌∙◌, arith, nat_tests, if◌then◌else◌, map_push, is_same_member, Member, PeerMissing, Info, peer_state, others_heard}
use Rattle.pgp_group.specs.Peering.{info_from}
use Rattle.pgp_group.proofs.PeerLemmas.{others-one, others-none}
use Rattle.pgp_group.proofs.group.best_copy.states.Goals as goal
use Rattle.pgp_group.proofs.group.best_copy.states.Goals.{then-ne+in-Some+in_ok-missing_of+in_ok-push, then-ne+in_default, else-ne}

pub loop-member-preserved : goal.loop-member-preserved
loop-member-preserved c = λ info reported is same.
    let i = c.loop-member.member-index in
    let x = c.member-item.result in
    let all = c.args.members.now in
    let kept = c.args.heard.now.infos in
    let state : Info → PeerMissing = λ peer. record { member = peer.member; state = peer_state info reported peer } in
    let so_far : List Info = others_heard (take i all) kept info in
    let before : c.loop-member.states.items ≡ map state so_far = c.loop-member.invariant info reported is same in
    elim c.if-ne.branch [
      | then-ne+in-Some+in_ok-missing_of+in_ok-push w ↦
          let peer = w.in-Some.peer.now in
          let other : is_same_member x info.member ≡ false = subst (λ (m : Member). is_same_member x m ≡ false) (sym same) (grind (arith, nat_tests, c.ne.ensures, w.if-ne.true)) in
          let found : Some peer ≡ (if is_same_member x info.member then None else info_from kept x) = rw other w.in-Some.ensures.value in
          let next : others_heard (take (i + 1) all) kept info ≡ so_far ++ peer ∷ [] =
          others-one all kept info i x c.loop-member-test.true c.member-item.is peer found in
          rw w.states-is
          (w.in_ok-push.ensures.items ∙ (λ j. before j ++ record { member = peer.member; state = w.in_ok-missing_of.ensures info reported is j } ∷ [])
          ∙ sym (ap (map state) next ∙ map_push state so_far peer))
      | then-ne+in_default w ↦
          let other : is_same_member x info.member ≡ false = subst (λ (m : Member). is_same_member x m ≡ false) (sym same) (grind (arith, nat_tests, c.ne.ensures, w.if-ne.true)) in
          let found : None ≡ (if is_same_member x info.member then None else info_from kept x) = rw other w.in_default.ensures.value in
          rw w.states-is (before ∙ sym (ap (map state) (others-none all kept info i x c.loop-member-test.true c.member-item.is found)))
      | else-ne w ↦
          let best : is_same_member x info.member ≡ true = subst (λ (m : Member). is_same_member x m ≡ true) (sym same) (grind (arith, nat_tests, c.ne.ensures, w.if-ne.false)) in
          let found : None ≡ (if is_same_member x info.member then None else info_from kept x) = rw best refl in
          rw w.states-is (before ∙ sym (ap (map state) (others-none all kept info i x c.loop-member-test.true c.member-item.is found)))
    ]
