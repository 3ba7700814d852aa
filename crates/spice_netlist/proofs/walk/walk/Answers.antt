-- Each step passes an instance, goes into it, or goes back to the level around.
use Rattle.std.proofs.Common.{◌≡◌, ◌<◌, ℕ, List, [], ◌∷◌, ◌++◌, length, map, reverse, Option, None, refl, sym, ap, subst, ◌∙◌, arith}
use Rattle.std.proofs.lemmas.List.{nil_from_length}
use Rattle.or_geom.proofs.ListLaws.{reverse_push}
use Rattle.spice_netlist.specs.declared.resolved.ResolvedSubckt.{ResolvedSubckt}
use Rattle.spice_netlist.specs.declared.level.WalkLevel.{WalkLevel}
use Rattle.spice_netlist.specs.declared.name_index.NameIndex.{NameIndex}
use Rattle.spice_netlist.specs.declared.rows.RowList.{RowList}
use Rattle.spice_netlist.specs.Found.{found}
use Rattle.spice_netlist.specs.Names.{index_of}
use Rattle.spice_netlist.specs.Resolved.{ports_at}
use Rattle.spice_netlist.specs.Walk.{walk_at}
use Rattle.spice_netlist.specs.Pins.{pins_of}
use Rattle.spice_netlist.specs.Descent.{IsTableBy}
use Rattle.spice_netlist.specs.Levels.{level_key, seen_name, view_of}
use Rattle.spice_netlist.proofs.LevelLaws.{with_rest}
use Rattle.spice_netlist.proofs.DescentLaws.{IsUnderWay, weight, begins, ends, leaves, skips, index_here, few_pins, writes, passes, enters, lighter_inside, lighter_past}
use Rattle.spice_netlist.proofs.walk.walk.Goals as goal

pub steps-init : goal.steps-init
steps-init c =
    let path = c.new-instance_path.result.path.items in
    let net = c.new-instance_path.result.net.items in
    let f = c.top_level-level.result in
    let none : (name : List ℕ) → found f.ports.now name ≡ None = λ name. ap (λ (t : NameIndex). found t name) c.top_level-level.ensures.ports ∙ c.requires.none name in
    subst (λ (fs : List WalkLevel). IsUnderWay c.args.subckts.now c.args.top c.args.rows.now c.args.rows.now path net f (reverse fs)) (sym c.new-trail.ensures.items)
    (begins c.args.subckts.now c.args.top c.args.rows.now c.requires.walkable path net f c.new-instance_path.ensures.path c.new-instance_path.ensures.net c.top_level-level.ensures.instances none c.top_level-level.ensures.nets c.top_level-level.ensures.prefix)

pub returns-in_default-pop : goal.returns-in_default-pop
returns-in_default-pop c =
    let none = nil_from_length c.steps.trail.items (omega (arith, c.in_default-pop.ensures.cases)) in
    ends c.args.subckts.now c.args.top c.args.rows.now c.requires.walkable c.steps.rows c.steps.instance_path.path.items c.steps.instance_path.net.items c.steps.level (nil_from_length c.steps.level.instances.now c.in_default.ensures.cases)
    (subst (λ (fs : List WalkLevel). IsUnderWay c.args.subckts.now c.args.top c.args.rows.now c.steps.rows c.steps.instance_path.path.items c.steps.instance_path.net.items c.steps.level (reverse fs)) none c.steps.invariant)

pub steps-preserved-in_default : goal.steps-preserved-in_default
steps-preserved-in_default c =
    let popped : reverse c.steps.trail.items ≡ c.in-Some-pop.outer ∷ reverse c.pop.new.self.items = ap reverse c.in-Some-pop.ensures.items ∙ reverse_push c.pop.new.self.items c.in-Some-pop.outer in
    leaves c.args.subckts.now c.args.top c.args.rows.now c.requires.walkable c.steps.rows c.steps.instance_path.path.items c.back_to.new.self.path.items c.steps.instance_path.net.items c.back_to.new.self.net.items c.steps.level c.in-Some-pop.outer (reverse c.pop.new.self.items)
    (nil_from_length c.steps.level.instances.now c.in_default.ensures.cases) c.back_to.ensures.path c.back_to.ensures.net
    (subst (λ (fs : List WalkLevel). IsUnderWay c.args.subckts.now c.args.top c.args.rows.now c.steps.rows c.steps.instance_path.path.items c.steps.instance_path.net.items c.steps.level fs) popped c.steps.invariant)

pub steps-preserved-in_default-index : goal.steps-preserved-in_default-index
steps-preserved-in_default-index c =
    let f = with_rest c.steps.level c.in-Some.rest in
    skips c.args.subckts.now c.args.top c.args.rows.now c.requires.walkable c.steps.rows c.steps.instance_path.path.items c.steps.instance_path.net.items c.steps.level f (reverse c.steps.trail.items) c.in-Some.instance.now c.in-Some.ensures.cases.0 refl refl refl c.steps.invariant
    c.in_default-index.is

pub add_pins-requires-clause-within : goal.add_pins-requires-clause-within
add_pins-requires-clause-within c =
    let f = with_rest c.steps.level c.in-Some.rest in
    index_here c.args.subckts.now c.args.top c.args.rows.now c.requires.walkable c.steps.rows c.steps.instance_path.path.items c.steps.instance_path.net.items c.steps.level f (reverse c.steps.trail.items) c.in-Some.instance.now c.in-Some.ensures.cases.0 refl refl refl c.steps.invariant
    c.in-Some-index.index c.in-Some-index.is

pub add_pins-requires-clause-few : goal.add_pins-requires-clause-few
add_pins-requires-clause-few c =
    let path = c.steps.instance_path.path.items in
    let net = c.steps.instance_path.net.items in
    let f = with_rest c.steps.level c.in-Some.rest in
    let texts : map (level_key net) c.deref.result.now ≡ map (seen_name (view_of path net f)) c.in-Some.instance.now.nodes =
    ap (map (level_key net)) c.deref.ensures.value ∙ c.in_ok-nets.ensures.seen path net ∙ ap (map (seen_name (view_of path net f))) c.as_slice.ensures in
    few_pins c.args.subckts.now c.args.top c.args.rows.now c.requires.walkable c.steps.rows path net c.steps.level f (reverse c.steps.trail.items) c.in-Some.instance.now c.in-Some.ensures.cases.0 refl refl refl c.steps.invariant
    c.in-Some-index.index c.in-Some-index.is c.deref.result.now texts c.requires.few

pub table_at-requires : goal.table_at-requires
table_at-requires c =
    let f = with_rest c.steps.level c.in-Some.rest in
    let lt : c.in-Some-index.index < length c.args.subckts.now =
    index_here c.args.subckts.now c.args.top c.args.rows.now c.requires.walkable c.steps.rows c.steps.instance_path.path.items c.steps.instance_path.net.items c.steps.level f (reverse c.steps.trail.items) c.in-Some.instance.now c.in-Some.ensures.cases.0 refl refl refl c.steps.invariant
    c.in-Some-index.index c.in-Some-index.is in
    subst (λ (n : ℕ). c.in-Some-index.index < n) (sym c.requires.tables.sized) lt

pub subckt_at-requires : goal.subckt_at-requires
subckt_at-requires c =
    let f = with_rest c.steps.level c.in-Some.rest in
    index_here c.args.subckts.now c.args.top c.args.rows.now c.requires.walkable c.steps.rows c.steps.instance_path.path.items c.steps.instance_path.net.items c.steps.level f (reverse c.steps.trail.items) c.in-Some.instance.now c.in-Some.ensures.cases.0 refl refl refl c.steps.invariant
    c.in-Some-index.index c.in-Some-index.is

pub steps-smaller-in_default-table_at : goal.steps-smaller-in_default-table_at
steps-smaller-in_default-table_at c =
    let f = with_rest c.steps.level c.in-Some.rest in
    lighter_past c.args.subckts.now c.steps.level f (reverse c.steps.trail.items) c.in-Some.instance.now c.in-Some-index.index c.in-Some.ensures.cases.0 c.in-Some-index.is

pub steps-preserved-in_default-table_at : goal.steps-preserved-in_default-table_at
steps-preserved-in_default-table_at c =
    let subckts = c.args.subckts.now in
    let k = c.in-Some-index.index in
    let path = c.steps.instance_path.path.items in
    let net = c.steps.instance_path.net.items in
    let outer = reverse c.steps.trail.items in
    let f = with_rest c.steps.level c.in-Some.rest in
    let texts : map (level_key net) c.deref.result.now ≡ map (seen_name (view_of path net f)) c.in-Some.instance.now.nodes =
    ap (map (level_key net)) c.deref.ensures.value ∙ c.in_ok-nets.ensures.seen path net ∙ ap (map (seen_name (view_of path net f))) c.as_slice.ensures in
    let written = writes subckts c.args.top c.args.rows.now c.requires.walkable c.steps.rows path net c.steps.level f outer c.in-Some.instance.now c.in-Some.ensures.cases.0 refl refl refl c.steps.invariant
    k c.in-Some-index.is c.deref.result.now texts c.add_pins.new.rows c.in_ok-add_pins.ensures in
    let other : Option NameIndex = None in
    let bare = subst (IsTableBy (length (pins_of subckts (walk_at subckts k))) (ports_at subckts k)) (c.in_default-table_at.ensures other) (c.requires.tables.each k other written.reached) in
    passes subckts c.args.top c.args.rows.now c.requires.walkable c.add_pins.new.rows path net f outer c.in-Some.instance.now k bare written

-- in the instance: the walk is under way there, with less left to do
record HasEntered (subckts : List ResolvedSubckt) (top : ℕ) (old new : RowList) (path net : List ℕ) (before g : WalkLevel) (outer fs : List WalkLevel) : Type 0 where
  pub under_way : IsUnderWay subckts top old new path net g fs
  pub less : weight subckts (g ∷ fs) < weight subckts (before ∷ outer)

entered : (c : goal.After-len) → HasEntered c.args.subckts.now c.args.top c.args.rows.now c.add_pins.new.rows c.enter.new.self.path.items c.enter.new.self.net.items c.steps.level
    (record { instances = c.as_slice-instances.result; ports = c.in-Some-table_at.ports; nets = c.in_ok-nets.nets; prefix = c.len.result }) (reverse c.steps.trail.items) (reverse c.push.new.self.items)
entered c =
    let subckts = c.args.subckts.now in
    let top = c.args.top in
    let instance = c.in-Some.instance.now in
    let k = c.in-Some-index.index in
    let path = c.steps.instance_path.path.items in
    let net = c.steps.instance_path.net.items in
    let path' = c.enter.new.self.path.items in
    let net' = c.enter.new.self.net.items in
    let outer = reverse c.steps.trail.items in
    let f = with_rest c.steps.level c.in-Some.rest in
    let g : WalkLevel = record { instances = c.as_slice-instances.result; ports = c.in-Some-table_at.ports; nets = c.in_ok-nets.nets; prefix = c.len.result } in
    let texts : map (level_key net) c.in_ok-nets.nets.items ≡ map (seen_name (view_of path net f)) instance.nodes =
    c.in_ok-nets.ensures.seen path net ∙ ap (map (seen_name (view_of path net f))) c.as_slice.ensures in
    let lent : map (level_key net) c.deref.result.now ≡ map (seen_name (view_of path net f)) instance.nodes = ap (map (level_key net)) c.deref.ensures.value ∙ texts in
    let written = writes subckts top c.args.rows.now c.requires.walkable c.steps.rows path net c.steps.level f outer instance c.in-Some.ensures.cases.0 refl refl refl c.steps.invariant
    k c.in-Some-index.is c.deref.result.now lent c.add_pins.new.rows c.in_ok-add_pins.ensures in
    let other : Option NameIndex = None in
    let look : (name : List ℕ) → found c.in-Some-table_at.ports.now name ≡ index_of (ports_at subckts k) name =
    subst (IsTableBy (length (pins_of subckts (walk_at subckts k))) (ports_at subckts k)) (c.in-Some-table_at.ensures other) (c.requires.tables.each k other written.reached) in
    let long : c.len.result ≡ length path' = c.len.ensures ∙ c.enter.new.self.path.ok.0 in
    let path_is : path' ≡ (path ++ instance.name) ++ 47 ∷ [] = c.in_ok-enter.ensures.path ∙ ap (λ (name : List ℕ). (path ++ name) ++ 47 ∷ []) c.as_bytes.ensures in
    let net_is : net' ≡ (net ++ instance.name) ++ 65 ∷ [] = c.in_ok-enter.ensures.net ∙ ap (λ (name : List ℕ). (net ++ name) ++ 65 ∷ []) c.as_bytes.ensures in
    let pushed : reverse c.push.new.self.items ≡ f ∷ outer = ap reverse c.in_ok-push.ensures.items ∙ reverse_push c.steps.trail.items f in
    let instances = c.as_slice-instances.ensures ∙ c.subckt_at.ensures.instances in
    subst (HasEntered subckts top c.args.rows.now c.add_pins.new.rows path' net' c.steps.level g outer) (sym pushed)
    (record {
      under_way = enters subckts top c.args.rows.now c.requires.walkable c.add_pins.new.rows path net path' net' f g outer instance k instances look c.in_ok-nets.ensures.near texts path_is net_is long written;
      less =
          lighter_inside subckts top c.args.rows.now c.requires.walkable c.add_pins.new.rows path net path' net' f g outer instance k instances look c.in_ok-nets.ensures.near texts path_is net_is long written c.steps.level c.in-Some.ensures.cases.0
          c.in-Some-index.is;
    })

pub steps-smaller : goal.steps-smaller
steps-smaller c = (entered c).less

pub steps-preserved : goal.steps-preserved
steps-preserved c = (entered c).under_way
