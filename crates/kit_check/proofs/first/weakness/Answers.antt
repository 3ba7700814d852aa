use Rattle.std.proofs.Common.{Option, Some, subst}
use Rattle.std.specs.Prelude.{MatchOption}
use Rattle.std.proofs.lemmas.Result.{IfOk-weaker}
use Rattle.leaf_nets.specs.Leaves.{AreKitNets}
use Rattle.kit_check.specs.declared.weak.Weak.{Weak}
use Rattle.kit_check.specs.Good.{AreWiresGood, IsWireWeakness}
use Rattle.kit_check.proofs.FirstLaws.{wire_first, pin_first, windows_first}
use Rattle.kit_check.proofs.WeakLaws.{is_weakness}
use Rattle.kit_check.proofs.ShareLaws.{match_none}
use Rattle.kit_check.proofs.first.weakness.Goals as goal

pub returns-in-Some : goal.returns-in-Some
returns-in-Some g c =
    let kit = c.args.kit.now in
    let answers = g.M.Maker.answers c.args.maker.now in
    let weak = subst (λ (o : Option Weak). MatchOption o (AreWiresGood kit) (IsWireWeakness kit)) c.in-Some.is c.in_ok-weak.ensures in
    is_weakness answers kit c.requires.maker (λ plan name a b. (g.met.M.Maker g.world.𝓛 g.world.𝓜 g.world.𝓡 ((λ s x. x), (λ x. x), (λ x. x), λ x. x)).one c.args.maker.now kit plan name a b c.requires.kit) c.requires.kit (Some c.in-Some.weak) (wire_first answers kit c.in-Some.weak weak)

pub returns-in_ok-weak_pin-in-Wrong : goal.returns-in_ok-weak_pin-in-Wrong
returns-in_ok-weak_pin-in-Wrong g c =
    let kit = c.args.kit.now in
    let answers = g.M.Maker.answers c.args.maker.now in
    let wires : AreWiresGood kit = match_none (AreWiresGood kit) (IsWireWeakness kit) c.in_ok-weak.field-0 c.in_ok-weak.ensures c.in_default.not-Some in
    let found = subst (AreKitNets kit) c.in-Wrong.is c.in_ok-role.ensures in
    let it = c.in_ok-weak_pin-in-Wrong.field-0 in
    is_weakness answers kit c.requires.maker (λ plan name a b. (g.met.M.Maker g.world.𝓛 g.world.𝓜 g.world.𝓡 ((λ s x. x), (λ x. x), (λ x. x), λ x. x)).one c.args.maker.now kit plan name a b c.requires.kit) c.requires.kit (Some it)
    (pin_first answers kit c.in-Wrong.role found.0 it (c.in_ok-weak_pin-in-Wrong.ensures found.0 found.1) wires found.2)

pub returns-in-Loose : goal.returns-in-Loose
returns-in-Loose g c =
    let kit = c.args.kit.now in
    let answers = g.M.Maker.answers c.args.maker.now in
    let wires : AreWiresGood kit = match_none (AreWiresGood kit) (IsWireWeakness kit) c.in_ok-weak.field-0 c.in_ok-weak.ensures c.in_default.not-Some in
    let found = subst (AreKitNets kit) c.in-Loose.is c.in_ok-role.ensures in
    IfOk-weaker _ _ _ (λ (weak : Option Weak) u. is_weakness answers kit c.requires.maker (λ plan name a b. (g.met.M.Maker g.world.𝓛 g.world.𝓜 g.world.𝓡 ((λ s x. x), (λ x. x), (λ x. x), λ x. x)).one c.args.maker.now kit plan name a b c.requires.kit) c.requires.kit weak (windows_first answers kit weak wires found.0 u)) c.weak_window.ensures
