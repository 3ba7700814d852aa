-- What holds of the kinds of transistors that are read.
use Rattle.std.proofs.Common.{◌≡◌, ◌≤◌, ℕ, Bool, true, false, cond, List, [], ◌∷◌, length, Result, Ok, All, sym, subst, arith, codes}
use Rattle.std.proofs.lemmas.List.Elements.{All-nil, All-push}
use Rattle.tech_rules.specs.declared.fault.TechFault.{TechFault}
use Rattle.toml_keys.specs.Fault.{◌>>=◌, in_turn}
use Rattle.toml_keys.specs.Keys.{Section, has_key, item_section, text_under, tables_under}
use Rattle.toml_keys.proofs.StepLaws.{steps_of, met_by, turns_keep, turns_length, tables_under-few}
use Rattle.tech_rules.specs.declared.tech.Device.{Device}
use Rattle.tech_rules.specs.declared.tech.Layer.{Layer}
use Rattle.tech_rules.specs.Devices.{model_under, third_name, device_in, device_of, devices_under}
use Rattle.tech_rules.specs.Facts.{IsDevice}
use Rattle.tech_rules.specs.Layers.{layer_index_of}
use Rattle.tech_rules.specs.Names.{are_different}
use Rattle.tech_rules.specs.Roles.{is_cell_name}
use Rattle.tech_rules.proofs.IndexFacts.{index_found, IsLayerIndex-of, differ}

model_facts : (s : Section TechFault) (model : List ℕ) → model_under s ≡ Ok model → is_cell_name model ≡ true
model_facts s model made =
    let t = steps_of (text_under s (codes "model")) _ model made in
    let m = met_by (is_cell_name t.x) t.x model _ t.next in
    subst (λ (x : List ℕ). is_cell_name x ≡ true) m.same m.holds

third_facts : (gate active : List ℕ) (s : Section TechFault) (by : List ℕ) → third_name gate active s ≡ Ok by
    → are_different (gate ∷ active ∷ by ∷ []) ≡ true
third_facts gate active s by made =
    let t = steps_of (text_under s (codes "by")) _ by made in
    let m = met_by (are_different (gate ∷ active ∷ t.x ∷ [])) t.x by _ t.next in
    subst (λ (x : List ℕ). are_different (gate ∷ active ∷ x ∷ []) ≡ true) m.same m.holds

device_facts : (layers : List Layer) (s : Section TechFault) (device : Device) → device_in layers s ≡ Ok device
    → IsDevice layers device
unfolding device_in
device_facts layers s device made =
    let m = steps_of (model_under s) _ device made in
    let a = steps_of (text_under s (codes "gate")) _ device m.next in
    let b = steps_of (layer_index_of layers s (codes "gate") a.x) _ device a.next in
    let c = steps_of (text_under s (codes "active")) _ device b.next in
    let d = steps_of (layer_index_of layers s (codes "active") c.x) _ device c.next in
    let e = steps_of (third_name a.x c.x s) _ device d.next in
    let f = steps_of (layer_index_of layers s (codes "by") e.x) _ device e.next in
    let gate = index_found layers s (codes "gate") a.x b.x b.first in
    let active = index_found layers s (codes "active") c.x d.x d.first in
    let by = index_found layers s (codes "by") e.x f.x f.first in
    let apart = differ layers (a.x ∷ c.x ∷ e.x ∷ []) (b.x ∷ d.x ∷ f.x ∷ []) (gate, (active, (by, tt))) (third_facts a.x c.x s e.x e.first) in
    let same : record { model = m.x; gate = b.x; active = d.x; by = f.x } ≡ device = cc in
    subst (IsDevice layers) same (record {
      model = model_facts s m.x m.first;
      gate = IsLayerIndex-of layers a.x b.x gate;
      active = IsLayerIndex-of layers c.x d.x active;
      by = IsLayerIndex-of layers e.x f.x by;
      active_differs = λ is. apart 0 1 0 (omega arith) (omega arith) (sym is);
      by_differs = λ is. apart 0 2 0 (omega arith) (omega arith) (sym is);
      by_and_active = λ is. apart 1 2 0 (omega arith) (omega arith) (sym is);
    })

-- what holds of the devices of a technology
pub record DevicesHold (layers : List Layer) (devices : List Device) : Type 0 where
  pub few : length devices ≤ 8
  pub are : All (IsDevice layers) devices

given_devices : (layers : List Layer) (s : Section TechFault) (devices : List Device)
    → (tables_under 1 8 s (codes "device") >>= in_turn (device_of layers s) []) ≡ Ok devices → DevicesHold layers devices
given_devices layers s devices made =
    let t = steps_of (tables_under 1 8 s (codes "device")) (in_turn (device_of layers s) []) devices made in
    let counts = tables_under-few 1 8 s (codes "device") t.x t.first in
    let long = turns_length (device_of layers s) [] t.x devices t.next in
    record {
      few = omega (arith, long, counts.few);
      are = turns_keep (device_of layers s) (All (IsDevice layers))
          (λ before d device so_far one. All-push (IsDevice layers) before device so_far (device_facts layers (item_section s (codes "device") (length before) d) device one))
          [] t.x devices (All-nil (IsDevice layers)) t.next;
    }

either_devices : (layers : List Layer) (found : Bool) (given : Result (List Device) TechFault) (devices : List Device)
    → (given ≡ Ok devices → DevicesHold layers devices) → cond found given (Ok []) ≡ Ok devices → DevicesHold layers devices
either_devices layers true given devices good_if made = good_if made
either_devices layers false given devices good_if made =
    let same : [] ≡ devices = cc in
    subst (DevicesHold layers) same (record { few = omega arith; are = All-nil (IsDevice layers) })

pub devices_hold : (layers : List Layer) (s : Section TechFault) (devices : List Device) → devices_under layers s ≡ Ok devices
    → DevicesHold layers devices
devices_hold layers s devices made = either_devices layers (has_key s (codes "device")) _ devices (given_devices layers s devices) made
