use Rattle.std.proofs.Common.{◌≡◌, ℕ, ◌-◌, true, map, ap, sym, ◌∙◌, subst, arith}
use Rattle.std.specs.List.{filter, range_with_len}
use Rattle.std.specs.Option.{is_some}
use Rattle.pgp_lists.specs.Ordered.{IsAscending, with_item}
use Rattle.pgp_whole.specs.Summary.{is_waited_for, stands_first}
use Rattle.pgp_whole.specs.kept.Sums.{waits_in}
use Rattle.pgp_whole.specs.declared.devices.DeviceWaits.{DeviceWaits}
use Rattle.pgp_whole.proofs.SummaryDevices.{all_numbers, ascends, one-waits}
use Rattle.pgp_whole.proofs.devices.devices_of.Goals as goal

pub insert_in_order-requires : goal.insert_in_order-requires
insert_in_order-requires c =
    let n : ℕ = c.loop-number.number in
    subst (IsAscending stands_first) (sym c.loop-number.invariant)
    (ascends (filter is_waited_for (map (waits_in c.args.sums.now) (range_with_len n (4096 - n)))))

pub loop-number-preserved : goal.loop-number-preserved
loop-number-preserved c =
    let there : is_some c.new.result ≡ true = c.new.ensures.in_range.1 (omega arith) in
    let none = ap is_some c.in_default.is in absurd cc

pub loop-number-preserved-in-Continue-1 : goal.loop-number-preserved-in-Continue-1
loop-number-preserved-in-Continue-1 c =
    let waits : ℕ → DeviceWaits = waits_in c.args.sums.now in
    let n : ℕ = c.loop-number.number - 1 in
    let osd : c.in-Some.osd ≡ n = c.in-Some.ensures.value in
    let here : c.of-device.result ≡ waits n = c.of-device.ensures ∙ ap waits osd in
    let some : is_waited_for (waits n) ≡ true = ap is_waited_for (sym here) ∙ sym c.is_waited_for.ensures ∙ c.if-is_waited_for.true in
    c.in_ok-insert_in_order.ensures.ok
    ∙ (λ i. with_item stands_first (here i) (c.loop-number.invariant i))
    ∙ sym (one-waits waits n c.loop-number.number (omega arith) (omega arith) some)

pub returns : goal.returns
returns c = c.from_vec.ensures ∙ c.loop-number.invariant ∙ all_numbers (waits_in c.args.sums.now) c.loop-number.number (omega arith)
