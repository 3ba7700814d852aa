-- What holds of every technology that is read.
use Rattle.std.proofs.Common.{◌≡◌, ℕ, Bool, true, false, cond, List, [], ◌∷◌, Option, Some, None, Result, Ok, Err, IfOk, IfSome, All, IsTrue, find, option_map, unwrap_or, refl, subst, codes}
use Rattle.std.specs.List.{slice_get}
use Rattle.std.specs.Option.{ok_or, option_or, option_and_then}
use Rattle.std.proofs.lemmas.List.Elements.{All-nil, All-head, All-tail, All-push}
use Rattle.std.proofs.lemmas.Option.{slice_get-get_or}
use Rattle.tech_rules.specs.declared.fault.TechFault.{TechFault}
use Rattle.tech_rules.specs.declared.fault.TechFault.TheVariants.{NotToml, BadWire, Memory}
use Rattle.toml.specs.Data.{table}
use Rattle.toml_keys.specs.Document.{document}
use Rattle.toml_keys.specs.Fault.{◌>>=◌, MatchesUnless}
use Rattle.toml_keys.specs.Keys.{Section, whole, has_key, section_under, text_under}
use Rattle.toml_keys.proofs.StepLaws.{steps_of, met_by, turns_keep}
use Rattle.tech_rules.specs.declared.tech.Layer.{Layer}
use Rattle.tech_rules.specs.declared.tech.RoleName.{RoleName}
use Rattle.tech_rules.specs.declared.tech.Tech.{Tech}
use Rattle.tech_rules.specs.declared.tech.Wire.{Wire}
use Rattle.tech_rules.specs.Connects.{connects_under}
use Rattle.tech_rules.specs.Devices.{devices_under}
use Rattle.tech_rules.specs.Facts.{IsLayerIndex, IsWire, IsTech}
use Rattle.tech_rules.specs.Layers.{layers_under, layer_under}
use Rattle.tech_rules.specs.Roles.{is_cell_name, role_names, role_cell, roles_in, of_roles, roles_under, rows_under}
use Rattle.tech_rules.specs.Rules.{rules_under}
use Rattle.tech_rules.specs.Fault.{tech_faults}
use Rattle.tech_rules.specs.Technology.{tech_in, technology}
use Rattle.tech_rules.specs.WireRules.{is_bad_metal, is_bad_cut, first_bad_cut, first_bad_index, bad_layer}
use Rattle.tech_rules.specs.Wires.{wire_under}
use Rattle.tech_rules.proofs.LayerFacts.{layers_hold}
use Rattle.tech_rules.proofs.IndexFacts.{layer_under-IsLayerIndex, some_layer}
use Rattle.tech_rules.proofs.RuleFacts.{rules_hold, connects_hold}
use Rattle.tech_rules.proofs.WireFacts.{wire_holds}
use Rattle.tech_rules.proofs.DeviceFacts.{devices_hold}

cell_facts : (s : Section TechFault) (role : List ℕ) (r : RoleName) → role_cell s role ≡ Ok r
    → IsTrue (is_cell_name r.cell)
cell_facts s role r made =
    let t = steps_of (text_under s role) _ r made in
    let m = met_by (is_cell_name t.x) (record { role = role; cell = t.x }) r _ t.next in
    subst (λ (x : RoleName). IsTrue (is_cell_name x.cell)) m.same m.holds

either_roles : (found : Bool) (given : Result (List RoleName) TechFault) (roles : List RoleName)
    → (given ≡ Ok roles → All (λ r. IsTrue (is_cell_name r.cell)) roles) → cond found given (Ok []) ≡ Ok roles
    → All (λ r. IsTrue (is_cell_name r.cell)) roles
either_roles true given roles good_if made = good_if made
either_roles false given roles good_if made = let same : [] ≡ roles = cc in subst (All (λ (r : RoleName). IsTrue (is_cell_name r.cell))) same (All-nil (λ (r : RoleName). IsTrue (is_cell_name r.cell)))

given_roles : (s : Section TechFault) (roles : List RoleName)
    → (section_under s (codes "role") >>= λ r. of_roles role_cell r role_names) ≡ Ok roles
    → All (λ r. IsTrue (is_cell_name r.cell)) roles
given_roles s roles made =
    let a = steps_of (section_under s (codes "role")) _ roles made in
    turns_keep (λ _ role. role_cell a.x role) (All (λ (r : RoleName). IsTrue (is_cell_name r.cell)))
    (λ before role r so_far one. All-push (λ (x : RoleName). IsTrue (is_cell_name x.cell)) before r so_far (cell_facts a.x role r one))
    [] (roles_in a.x role_names) roles (All-nil (λ (r : RoleName). IsTrue (is_cell_name r.cell))) a.next

roles_hold : (s : Section TechFault) (roles : List RoleName) → roles_under s ≡ Ok roles
    → All (λ r. IsTrue (is_cell_name r.cell)) roles
roles_hold s roles made = either_roles (has_key s (codes "role")) _ roles (given_roles s roles) made

either_found : (P : ℕ → Type 0) (y x : ℕ) (passes : Bool) (rest : Option ℕ) → P y → (rest ≡ Some x → P x)
    → cond passes (Some y) rest ≡ Some x → P x
either_found P y x true rest here later found = let same : y ≡ x = cc in subst P same here
either_found P y x false rest here later found = later found

-- an element that is found is one of those of which P holds
found_holds : (P : ℕ → Type 0) (p : ℕ → Bool) (xs : List ℕ) (x : ℕ) → All P xs → find p xs ≡ Some x → P x
found_holds P p [] x all found = cc
found_holds P p (y ∷ ys) x all found = either_found P y x (p y) (find p ys) (All-head P y ys all) (found_holds P p ys x (All-tail P y ys all)) found

cut_holds : (P : ℕ → Type 0) (tech : Tech) (wire : Wire) (cuts metals : List ℕ) (x : ℕ) → All P cuts
    → first_bad_cut tech wire cuts metals ≡ Some x → P x
cut_holds P tech wire [] metals x all found = cc
cut_holds P tech wire (cut ∷ cuts) [] x all found = cc
cut_holds P tech wire (cut ∷ cuts) (low ∷ []) x all found = cc
cut_holds P tech wire (cut ∷ cuts) (low ∷ high ∷ metals) x all found =
    either_found P cut x (is_bad_cut tech wire cut low high) (first_bad_cut tech wire cuts (high ∷ metals)) (All-head P cut cuts all)
    (cut_holds P tech wire cuts (high ∷ metals) x (All-tail P cut cuts all)) found

either_index : (P : ℕ → Type 0) (metal cut : Option ℕ) (x : ℕ) → (metal ≡ Some x → P x) → (cut ≡ Some x → P x)
    → option_or metal cut ≡ Some x → P x
either_index P (Some y) cut x from_metal from_cut found = from_metal found
either_index P None cut x from_metal from_cut found = from_cut found

-- a layer on which the wires aren't allowed is one of theirs
bad_index_holds : (layers : List Layer) (tech : Tech) (wire : Wire) (x : ℕ) → IsWire layers wire
    → first_bad_index tech wire ≡ Some x → IsLayerIndex layers x
bad_index_holds layers tech wire x good found =
    either_index (IsLayerIndex layers) (find (is_bad_metal tech wire) wire.metals) (first_bad_cut tech wire wire.cuts wire.metals) x
    (found_holds (IsLayerIndex layers) (is_bad_metal tech wire) wire.metals x good.metals)
    (cut_holds (IsLayerIndex layers) tech wire wire.cuts wire.metals x good.cuts) found

none_if : (layers : List Layer) (d : Layer) (index : Option ℕ) → ((x : ℕ) → index ≡ Some x → IsLayerIndex layers x)
    → option_and_then (slice_get layers) index ≡ None → index ≡ None
none_if layers d None in_range none = refl
none_if layers d (Some x) in_range none = let there = slice_get-get_or layers x d (in_range x refl) in cc

allowed_wire : (tech : Tech) (wire : Option Wire) → IfSome wire (IsWire tech.layers)
    → option_and_then (slice_get tech.layers) (option_and_then (first_bad_index tech) wire) ≡ None
    → IfSome wire (λ w. first_bad_index tech w ≡ None)
allowed_wire tech None good none = tt
allowed_wire tech (Some wire) good none = none_if tech.layers some_layer (first_bad_index tech wire) (λ x found. bad_index_holds tech.layers tech wire x good found) none

-- no layer is bad, and the technology is that
record IsKept (bad : Option Layer) (tech kept : Tech) : Type 0 where
  none : bad ≡ None
  same : tech ≡ kept

kept_if : (bad : Option Layer) (fault : Layer → TechFault) (tech kept : Tech)
    → unwrap_or (option_map (λ layer. Err (fault layer)) bad) (Ok tech) ≡ Ok kept → IsKept bad tech kept
kept_if None fault tech kept made = record { none = refl; same = cc }
kept_if (Some layer) fault tech kept made = cc

pub tech_holds : (s : Section TechFault) (tech : Tech) → tech_in s ≡ Ok tech → IsTech tech
unfolding tech_in
tech_holds s tech made =
    let a = steps_of (layers_under s) _ tech made in
    let b = steps_of (layer_under a.x s (codes "outline")) _ tech a.next in
    let c = steps_of (rules_under a.x s) _ tech b.next in
    let d = steps_of (connects_under a.x s) _ tech c.next in
    let e = steps_of (wire_under a.x s) _ tech d.next in
    let f = steps_of (roles_under s) _ tech e.next in
    let g = steps_of (rows_under s) _ tech f.next in
    let h = steps_of (devices_under a.x s) _ tech g.next in
    let made_so : Tech = record { layers = a.x; outline = b.x; rules = c.x; connects = d.x; wire = e.x; roles = f.x; tables = g.x; devices = h.x } in
    let kept = kept_if (bad_layer made_so) (λ layer. BadWire layer.name) made_so tech h.next in
    let layers = layers_hold s a.x a.first in
    let rules = rules_hold a.x s c.x c.first in
    let connects = connects_hold a.x s d.x d.first in
    let wire = wire_holds a.x s e.x e.first in
    let devices = devices_hold a.x s h.x h.first in
    subst IsTech kept.same (record {
      some_layer = layers.some;
      few_layers = layers.few;
      layers = layers.are.each_one;
      names = layers.are.names;
      outline = layer_under-IsLayerIndex a.x s (codes "outline") b.x b.first;
      few_rules = rules.few;
      rules = rules.are;
      few_connects = connects.few;
      connects = connects.are;
      wire = wire;
      allowed = allowed_wire made_so e.x wire kept.none;
      roles = roles_hold s f.x f.first;
      few_devices = devices.few;
      devices = devices.are;
    })

pub gives-IsTech : (s : Section TechFault) (answer : Result Tech TechFault) → MatchesUnless Memory answer (tech_in s)
    → IfOk answer IsTech
gives-IsTech s (Ok tech) given = tech_holds s tech given
gives-IsTech s (Err e) given = tt

-- the technology that a file is
pub technology-IsTech : (bytes : List ℕ) (tech : Tech) → technology bytes ≡ Ok tech → IsTech tech
technology-IsTech bytes tech made =
    let read = steps_of (ok_or (document bytes) NotToml) (λ ms. tech_in (whole tech_faults (table ms))) tech made in
    tech_holds (whole tech_faults (table read.x)) tech read.next
