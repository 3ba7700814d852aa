-- What holds of the layers that are read.
use Rattle.std.proofs.Common.{◌≡◌, ◌≢◌, ◌≤◌, ◌<◌, ◌&&◌, ℕ, ℤ, pos, Bool, true, false, not, cond, List, [], ◌∷◌, ◌++◌, length, get_or, Some, Result, Ok, All, AllPairs, refl, subst, arith, codes}
use Rattle.std.specs.List.{list_any}
use Rattle.std.specs.Str.{bytes_eq}
use Rattle.std.proofs.lemmas.List.Elements.{All-nil, All-push}
use Rattle.std.proofs.lemmas.List.Folds.{list_any_at}
use Rattle.std.proofs.lemmas.List.Quantifiers.{all_pairs_push}
use Rattle.std.proofs.lemmas.Slice.Eq.{bytes_eq-Decides}
use Rattle.toml.specs.Data.{Data, as_integer}
use Rattle.tech_rules.specs.declared.fault.TechFault.{TechFault}
use Rattle.toml_keys.specs.Fault.{in_turn}
use Rattle.toml_keys.specs.Keys.{Section, IsInRange, has_key, item_section, text_under, array_of, is_integer, tables_under, in_range}
use Rattle.toml_keys.proofs.StepLaws.{steps_of, met_by, some_of, finds_of, turns_keep, turns_length, in_range-IsInRange, tables_under-few}
use Rattle.tech_rules.specs.declared.layers.GdsNumbers.{GdsNumbers}
use Rattle.tech_rules.specs.declared.tech.Layer.{Layer}
use Rattle.tech_rules.specs.Facts.{IsLayer}
use Rattle.tech_rules.specs.Layers.{is_word, is_named, name_under, short_in, pair_of, numbers_under, text_numbers, layer_of, layers_under}

record IsNewName (before : List Layer) (name : List ℕ) : Type 0 where
  word : is_word name ≡ true
  fresh : list_any (is_named name) before ≡ false

pub true_and_not : (a b : Bool) → (a && not b) ≡ true → (a ≡ true) × (b ≡ false)
true_and_not true true met = cc
true_and_not true false met = (refl, refl)
true_and_not false b met = cc

name_facts : (before : List Layer) (s : Section TechFault) (name : List ℕ) → name_under before s ≡ Ok name
    → IsNewName before name
unfolding name_under
name_facts before s name made =
    let t = steps_of (text_under s (codes "name")) _ name made in
    let m = met_by (is_word t.x && not (list_any (is_named t.x) before)) t.x name _ t.next in
    let parts = true_and_not (is_word t.x) (list_any (is_named t.x) before) m.holds in
    subst (IsNewName before) m.same (record { word = parts.0; fresh = parts.1 })

record AreShort (n : GdsNumbers) : Type 0 where
  number : IsInRange (pos 0) (pos 32767) n.number
  kind : IsInRange (pos 0) (pos 32767) n.kind

short_facts : (d : Data) (z : ℤ) → short_in d ≡ Some z → IsInRange (pos 0) (pos 32767) z
short_facts d z made =
    let f = finds_of (in_range (pos 0) (pos 32767)) (as_integer d) z made in
    in_range-IsInRange (pos 0) (pos 32767) f.x z f.next

pair_facts : (ds : List Data) (n : GdsNumbers) → pair_of ds ≡ Some n → AreShort n
pair_facts [] n made = cc
pair_facts (a ∷ []) n made = cc
pair_facts (a ∷ b ∷ []) n made =
    let f = finds_of _ (short_in a) n made in
    let g = finds_of _ (short_in b) n f.next in
    let same : record { number = f.x; kind = g.x } ≡ n = cc in
    subst AreShort same (record { number = short_facts a f.x f.first; kind = short_facts b g.x g.first })
pair_facts (a ∷ b ∷ c ∷ ds) n made = cc

numbers_facts : (s : Section TechFault) (key : List ℕ) (n : GdsNumbers) → numbers_under s key ≡ Ok n → AreShort n
unfolding numbers_under
numbers_facts s key n made =
    let t = steps_of (array_of is_integer s key) _ n made in
    pair_facts t.x n (some_of (pair_of t.x) _ n t.next)

either_numbers : (found : Bool) (given : Result GdsNumbers TechFault) (gds n : GdsNumbers)
    → (given ≡ Ok n → AreShort n) → AreShort gds → cond found given (Ok gds) ≡ Ok n → AreShort n
either_numbers true given gds n short_if short made = short_if made
either_numbers false given gds n short_if short made = let same : gds ≡ n = cc in subst AreShort same short

text_facts : (s : Section TechFault) (gds n : GdsNumbers) → AreShort gds → text_numbers s gds ≡ Ok n → AreShort n
text_facts s gds n short made =
    either_numbers (has_key s (codes "text")) (numbers_under s (codes "text")) gds n (numbers_facts s (codes "text") n) short made

record IsNewLayer (before : List Layer) (layer : Layer) : Type 0 where
  good : IsLayer layer
  fresh : list_any (is_named layer.name) before ≡ false

layer_facts : (document : Section TechFault) (before : List Layer) (d : Data) (layer : Layer)
    → layer_of document before d ≡ Ok layer → IsNewLayer before layer
unfolding layer_of
layer_facts document before d layer made =
    let s = item_section document (codes "layer") (length before) d in
    let a = steps_of (name_under before s) _ layer made in
    let b = steps_of (numbers_under s (codes "gds")) _ layer a.next in
    let c = steps_of (text_numbers s b.x) _ layer b.next in
    let name = name_facts before s a.x a.first in
    let gds = numbers_facts s (codes "gds") b.x b.first in
    let text = text_facts s b.x c.x gds c.first in
    let same : record { name = a.x; number = b.x.number; datatype = b.x.kind; text_number = c.x.number; texttype = c.x.kind } ≡ layer = cc in
    subst (IsNewLayer before) same (record {
      good = record { name = name.word; number = gds.number; datatype = gds.kind; text_number = text.number; texttype = text.kind };
      fresh = name.fresh;
    })

-- what holds of all layers so far
pub record AreLayers (layers : List Layer) : Type 0 where
  pub each_one : All IsLayer layers
  pub names : AllPairs (λ a b. a.name ≢ b.name) layers

-- a name that no earlier layer has
differs : (layers : List Layer) (name : List ℕ) (k : ℕ) (d : Layer) → list_any (is_named name) layers ≡ false
    → k < length layers → (get_or layers k d).name ≢ name
differs layers name k d fresh lt same =
    let yes' : bytes_eq (get_or layers k d).name name ≡ true = (bytes_eq-Decides (get_or layers k d).name name).1 same in
    let found = list_any_at (is_named name) layers k d lt yes' in
    cc

one_more : (document : Section TechFault) (before : List Layer) (d : Data) (layer : Layer) → AreLayers before
    → layer_of document before d ≡ Ok layer → AreLayers (before ++ layer ∷ [])
one_more document before d layer so_far made =
    let new = layer_facts document before d layer made in
    record {
      each_one = All-push IsLayer before layer so_far.each_one new.good;
      names = all_pairs_push (λ (a b : Layer). a.name ≢ b.name) before layer so_far.names (λ k e lt. differs before layer.name k e new.fresh lt);
    }

no_pairs : AllPairs (λ (a b : Layer). a.name ≢ b.name) []
no_pairs i j d below inside = absurd (omega arith)

-- what holds of the layers of a technology
pub record LayersHold (layers : List Layer) : Type 0 where
  pub some : 1 ≤ length layers
  pub few : length layers ≤ 64
  pub are : AreLayers layers

pub layers_hold : (s : Section TechFault) (layers : List Layer) → layers_under s ≡ Ok layers → LayersHold layers
layers_hold s layers made =
    let t = steps_of (tables_under 1 64 s (codes "layer")) (in_turn (layer_of s) []) layers made in
    let counted = tables_under-few 1 64 s (codes "layer") t.x t.first in
    let long = turns_length (layer_of s) [] t.x layers t.next in
    record {
      some = omega (arith, long, counted.some);
      few = omega (arith, long, counted.few);
      are = turns_keep (layer_of s) AreLayers (one_more s) [] t.x layers (record { each_one = All-nil IsLayer; names = no_pairs }) t.next;
    }
