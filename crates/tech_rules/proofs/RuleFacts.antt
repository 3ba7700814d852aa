-- What holds of the rules and connections that are read.
use Rattle.std.proofs.Common.{◌≡◌, ◌≤◌, ℕ, ℤ, pos, Bool, true, false, cond, List, [], length, Ok, Err, All, subst, arith, codes}
use Rattle.std.specs.Str.{bytes_eq}
use Rattle.std.proofs.lemmas.List.Elements.{All-nil, All-push}
use Rattle.tech_rules.specs.declared.fault.TechFault.{TechFault}
use Rattle.toml_keys.specs.Fault.{◌>>=◌, in_turn}
use Rattle.toml_keys.specs.Keys.{Section, item_section, text_under, texts_under, optional_tables, counted}
use Rattle.toml_keys.proofs.StepLaws.{steps_of, spared_by, turns_keep, turns_length, counted-IsCounted, number_under-IsInRange, optional_tables-few}
use Rattle.tech_rules.specs.declared.tech.Connect.{Connect}
use Rattle.tech_rules.specs.declared.tech.Layer.{Layer}
use Rattle.tech_rules.specs.declared.tech.Rule.{Rule}
use Rattle.tech_rules.specs.declared.tech.Rule.TheVariants.{Width, Space, Enclose}
use Rattle.tech_rules.specs.Connects.{other_names, connect_in, connect_of, connects_under}
use Rattle.tech_rules.specs.Facts.{IsLayerIndex, IsRuleMinimum, IsRule, IsConnect}
use Rattle.tech_rules.specs.Layers.{layer_under, layer_index_of, layer_indices_of}
use Rattle.tech_rules.specs.Names.{holds}
use Rattle.tech_rules.specs.Rules.{minimum_under, layers_named, width_rule, space_rule, enclose_rule, rule_in, rule_of, rules_under}
use Rattle.tech_rules.proofs.IndexFacts.{index_found, IsLayerIndex-of, layer_under-IsLayerIndex, indices_named, indices_are, indices_as_many, others}

minimum_facts : (s : Section TechFault) (min : ℤ) → minimum_under s ≡ Ok min → IsRuleMinimum min
minimum_facts s min made = number_under-IsInRange (pos 1) (pos 1048576) s (codes "min") min made

width_facts : (layers : List Layer) (s : Section TechFault) (rule : Rule) → width_rule layers s ≡ Ok rule
    → IsRule layers rule
unfolding width_rule
width_facts layers s rule made =
    let a = steps_of (layer_under layers s (codes "layer")) _ rule made in
    let b = steps_of (minimum_under s) _ rule a.next in
    let same : Width a.x b.x ≡ rule = cc in
    subst (IsRule layers) same (record { layer = layer_under-IsLayerIndex layers s (codes "layer") a.x a.first; min = minimum_facts s b.x b.first })

space_facts : (layers : List Layer) (s : Section TechFault) (rule : Rule) → space_rule layers s ≡ Ok rule
    → IsRule layers rule
unfolding space_rule
space_facts layers s rule made =
    let a = steps_of (layer_under layers s (codes "layer")) _ rule made in
    let o = steps_of (layer_under layers s (codes "other")) _ rule a.next in
    let b = steps_of (minimum_under s) _ rule o.next in
    let same : Space a.x o.x b.x ≡ rule = cc in
    subst (IsRule layers) same (record {
      layer = layer_under-IsLayerIndex layers s (codes "layer") a.x a.first;
      other = layer_under-IsLayerIndex layers s (codes "other") o.x o.first;
      min = minimum_facts s b.x b.first;
    })

-- the layers that a key names are there, and as many as they may be
record AreNamed (low high : ℕ) (layers : List Layer) (indices : List ℕ) : Type 0 where
  some : low ≤ length indices
  few : length indices ≤ high
  there : All (IsLayerIndex layers) indices

named_facts : (low high : ℕ) (layers : List Layer) (s : Section TechFault) (key : List ℕ) (indices : List ℕ)
    → layers_named low high layers s key ≡ Ok indices → AreNamed low high layers indices
named_facts low high layers s key indices made =
    let t = steps_of (texts_under s key) _ indices made in
    let n = steps_of (counted low high s key t.x) _ indices t.next in
    let counts = counted-IsCounted low high s key t.x n.x n.first in
    let named = indices_named layers s key n.x indices n.next in
    let long = indices_as_many layers n.x indices named in
    record {
      some = omega (arith, long, counts.some);
      few = omega (arith, long, counts.few);
      there = indices_are layers n.x indices named;
    }

enclose_facts : (layers : List Layer) (s : Section TechFault) (rule : Rule) → enclose_rule layers s ≡ Ok rule
    → IsRule layers rule
unfolding enclose_rule
enclose_facts layers s rule made =
    let a = steps_of (layer_under layers s (codes "layer")) _ rule made in
    let o = steps_of (layers_named 1 8 layers s (codes "by")) _ rule a.next in
    let b = steps_of (minimum_under s) _ rule o.next in
    let by = named_facts 1 8 layers s (codes "by") o.x o.first in
    let same : Enclose a.x o.x b.x ≡ rule = cc in
    subst (IsRule layers) same (record {
      layer = layer_under-IsLayerIndex layers s (codes "layer") a.x a.first;
      some = by.some;
      few = by.few;
      by = by.there;
      min = minimum_facts s b.x b.first;
    })

by_kind : (layers : List Layer) (s : Section TechFault) (rule : Rule) (is_width is_space is_enclose : Bool) (e : TechFault)
    → cond is_width (width_rule layers s) (cond is_space (space_rule layers s) (cond is_enclose (enclose_rule layers s) (Err e))) ≡ Ok rule
    → IsRule layers rule
by_kind layers s rule true is_space is_enclose e made = width_facts layers s rule made
by_kind layers s rule false true is_enclose e made = space_facts layers s rule made
by_kind layers s rule false false true e made = enclose_facts layers s rule made
by_kind layers s rule false false false e made = cc

rule_facts : (layers : List Layer) (s : Section TechFault) (rule : Rule) → rule_in layers s ≡ Ok rule
    → IsRule layers rule
unfolding rule_in
rule_facts layers s rule made =
    let t = steps_of (text_under s (codes "kind")) _ rule made in
    by_kind layers s rule (bytes_eq t.x (codes "width")) (bytes_eq t.x (codes "space")) (bytes_eq t.x (codes "enclose")) _ t.next

-- what holds of the rules of a technology
pub record RulesHold (layers : List Layer) (rules : List Rule) : Type 0 where
  pub few : length rules ≤ 256
  pub are : All (IsRule layers) rules

pub rules_hold : (layers : List Layer) (s : Section TechFault) (rules : List Rule) → rules_under layers s ≡ Ok rules
    → RulesHold layers rules
rules_hold layers s rules made =
    let t = steps_of (optional_tables 256 s (codes "rule")) (in_turn (rule_of layers s) []) rules made in
    let few = optional_tables-few 256 s (codes "rule") t.x t.first in
    let long = turns_length (rule_of layers s) [] t.x rules t.next in
    record {
      few = omega (arith, long, few);
      are = turns_keep (rule_of layers s) (All (IsRule layers))
          (λ before d rule so_far one. All-push (IsRule layers) before rule so_far (rule_facts layers (item_section s (codes "rule") (length before) d) rule one))
          [] t.x rules (All-nil (IsRule layers)) t.next;
    }

-- names other than one, and as many as they may be
record AreOthers (name : List ℕ) (names : List (List ℕ)) : Type 0 where
  some : 2 ≤ length names
  few : length names ≤ 8
  none : holds name names ≡ false

other_facts : (name : List ℕ) (s : Section TechFault) (key : List ℕ) (names : List (List ℕ))
    → other_names name s key ≡ Ok names → AreOthers name names
other_facts name s key names made =
    let t = steps_of (texts_under s key >>= counted 2 8 s key) _ names made in
    let u = steps_of (texts_under s key) (counted 2 8 s key) t.x t.first in
    let counts = counted-IsCounted 2 8 s key u.x t.x u.next in
    let free = spared_by (holds name t.x) t.x names _ t.next in
    subst (AreOthers name) free.same (record { some = counts.some; few = counts.few; none = free.fails })

connect_facts : (layers : List Layer) (s : Section TechFault) (connect : Connect) → connect_in layers s ≡ Ok connect
    → IsConnect layers connect
unfolding connect_in
connect_facts layers s connect made =
    let a = steps_of (text_under s (codes "cut")) _ connect made in
    let b = steps_of (layer_index_of layers s (codes "cut") a.x) _ connect a.next in
    let c = steps_of (other_names a.x s (codes "to")) _ connect b.next in
    let d = steps_of (layer_indices_of layers s (codes "to") c.x) _ connect c.next in
    let cut = index_found layers s (codes "cut") a.x b.x b.first in
    let names = other_facts a.x s (codes "to") c.x c.first in
    let named = indices_named layers s (codes "to") c.x d.x d.first in
    let long = indices_as_many layers c.x d.x named in
    let same : record { cut = b.x; to = d.x } ≡ connect = cc in
    subst (IsConnect layers) same (record {
      cut = IsLayerIndex-of layers a.x b.x cut;
      some = omega (arith, long, names.some);
      few = omega (arith, long, names.few);
      to = indices_are layers c.x d.x named;
      others = others layers a.x b.x c.x d.x cut named names.none;
    })

-- what holds of the connections of a technology
pub record ConnectsHold (layers : List Layer) (connects : List Connect) : Type 0 where
  pub few : length connects ≤ 64
  pub are : All (IsConnect layers) connects

pub connects_hold : (layers : List Layer) (s : Section TechFault) (connects : List Connect)
    → connects_under layers s ≡ Ok connects → ConnectsHold layers connects
connects_hold layers s connects made =
    let t = steps_of (optional_tables 64 s (codes "connect")) (in_turn (connect_of layers s) []) connects made in
    let few = optional_tables-few 64 s (codes "connect") t.x t.first in
    let long = turns_length (connect_of layers s) [] t.x connects t.next in
    record {
      few = omega (arith, long, few);
      are = turns_keep (connect_of layers s) (All (IsConnect layers))
          (λ before d connect so_far one. All-push (IsConnect layers) before connect so_far (connect_facts layers (item_section s (codes "connect") (length before) d) connect one))
          [] t.x connects (All-nil (IsConnect layers)) t.next;
    }
