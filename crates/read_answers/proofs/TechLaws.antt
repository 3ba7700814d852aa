-- No technology is refused for want of memory.
use Rattle.std.proofs.Common.{ℕ, ℤ, pos, List, [], length, Option, Some, None, Ok, Err, ap, ◌∙◌}
use Rattle.std.specs.Prelude.{codes, option_map, position, unwrap_or}
use Rattle.std.specs.Option.{ok_or}
use Rattle.toml.specs.Data.{Data, table}
use Rattle.toml_keys.specs.Document.{document}
use Rattle.toml_keys.specs.Fault.{in_turn}
use Rattle.toml_keys.specs.Keys.{Section, has_key, is_integer, item_section, key_in, section_under, text_under}
use Rattle.toml_keys.specs.Keys.{whole}
use Rattle.tech_rules.specs.declared.fault.TechFault.{TechFault}
use Rattle.tech_rules.specs.declared.fault.TechFault.TheVariants.{BadWire, Memory, NotToml, UnknownLayer}
use Rattle.tech_rules.specs.declared.tech.Layer.{Layer}
use Rattle.tech_rules.specs.declared.tech.RoleName.{RoleName}
use Rattle.tech_rules.specs.declared.tech.Rule.{Rule}
use Rattle.tech_rules.specs.declared.tech.Tech.{Tech}
use Rattle.tech_rules.specs.Connects.{connect_in, connect_of, connects_under, other_names}
use Rattle.tech_rules.specs.Devices.{device_in, device_of, devices_under, model_under, third_name}
use Rattle.tech_rules.specs.Fault.{tech_faults}
use Rattle.tech_rules.specs.Layers.{is_named, layer_index_of, layer_indices_of, layer_of, layer_under, layers_under, name_under, numbers_under}
use Rattle.tech_rules.specs.Layers.{pair_of, text_numbers}
use Rattle.tech_rules.specs.Roles.{role_cell, role_names, role_rows, roles_in, roles_under, rows_under}
use Rattle.tech_rules.specs.Rules.{enclose_rule, layers_named, minimum_under, rule_in, rule_of, rules_under, space_rule, width_rule}
use Rattle.tech_rules.specs.Technology.{tech_in}
use Rattle.tech_rules.specs.WireRules.{bad_layer}
use Rattle.tech_rules.specs.Wires.{cut_under, new_names, size_under, wire_in, wire_under}
use Rattle.read_answers.specs.ReadAnswers.{TechnologiesLast}
use Rattle.read_answers.proofs.KeyLaws.{HasOthers, Lasts, array_of_lasts, counted_lasts, err_lasts, if_lasts, number_lasts, ok_lasts}
use Rattle.read_answers.proofs.KeyLaws.{optional_tables_last, or_lasts, range_lasts, section_lasts, section_others, tables_last, text_lasts}
use Rattle.read_answers.proofs.KeyLaws.{texts_last, then_lasts, turns_last}

abbrev Others : Section TechFault → Type 0
Others s = HasOthers Memory s

-- a table of an array has the faults of its document
item_others : (s : Section TechFault) (array : List ℕ) (index : ℕ) (d : Data) → Others s → Others (item_section s array index d)
item_others s array index d o = record { missing = o.missing; wrong_kind = o.wrong_kind; out_of_range = o.out_of_range }

module _ (s : Section TechFault) (o : Others s) where
  name_lasts : (before : List Layer) → Lasts Memory (name_under before s)
  unfolding name_under
  name_lasts before =
      then_lasts Memory (text_under s (codes "name")) _ (text_lasts Memory s o (codes "name"))
      (λ name made. if_lasts Memory _ _ _ (ok_lasts Memory name) (range_lasts Memory s o (List ℕ) (codes "name")))

  numbers_last : (key : List ℕ) → Lasts Memory (numbers_under s key)
  unfolding numbers_under
  numbers_last key =
      then_lasts Memory _ _ (array_of_lasts Memory s o is_integer key) (λ ds made. or_lasts Memory (pair_of ds) _ (o.out_of_range (key_in s key)))

  index_lasts : (layers : List Layer) (key name : List ℕ) → Lasts Memory (layer_index_of layers s key name)
  index_lasts layers key name = or_lasts Memory (position (is_named name) layers) (UnknownLayer (key_in s key)) (λ e. absurd (cc))

  layer_under_lasts : (layers : List Layer) (key : List ℕ) → Lasts Memory (layer_under layers s key)
  layer_under_lasts layers key =
      then_lasts Memory (text_under s key) (layer_index_of layers s key) (text_lasts Memory s o key) (λ name made. index_lasts layers key name)

  indices_last : (layers : List Layer) (key : List ℕ) (names : List (List ℕ)) → Lasts Memory (layer_indices_of layers s key names)
  indices_last layers key names = turns_last Memory (λ _ name. layer_index_of layers s key name) [] names (λ some name. index_lasts layers key name)

  minimum_lasts : Lasts Memory (minimum_under s)
  minimum_lasts = number_lasts Memory s o (pos 1) (pos 1048576) (codes "min")

  width_lasts : (layers : List Layer) → Lasts Memory (width_rule layers s)
  unfolding width_rule
  width_lasts layers =
      then_lasts Memory _ _ (layer_under_lasts layers (codes "layer"))
      (λ layer made. then_lasts Memory _ _ minimum_lasts (λ min made. ok_lasts Memory _))

  space_lasts : (layers : List Layer) → Lasts Memory (space_rule layers s)
  unfolding space_rule
  space_lasts layers =
      then_lasts Memory _ _ (layer_under_lasts layers (codes "layer"))
      (λ layer made. then_lasts Memory _ _ (layer_under_lasts layers (codes "other"))
      (λ other made. then_lasts Memory _ _ minimum_lasts (λ min made. ok_lasts Memory _)))

  named_last : (low high : ℕ) (layers : List Layer) (key : List ℕ) → Lasts Memory (layers_named low high layers s key)
  named_last low high layers key =
      then_lasts Memory _ _ (texts_last Memory s o key)
      (λ names made. then_lasts Memory _ _ (counted_lasts Memory s o low high key names) (λ some made. indices_last layers key some))

  enclose_lasts : (layers : List Layer) → Lasts Memory (enclose_rule layers s)
  unfolding enclose_rule
  enclose_lasts layers =
      then_lasts Memory _ _ (layer_under_lasts layers (codes "layer"))
      (λ layer made. then_lasts Memory _ _ (named_last 1 8 layers (codes "by"))
      (λ by made. then_lasts Memory _ _ minimum_lasts (λ min made. ok_lasts Memory _)))

  rule_lasts : (layers : List Layer) → Lasts Memory (rule_in layers s)
  unfolding rule_in
  rule_lasts layers =
      then_lasts Memory _ _ (text_lasts Memory s o (codes "kind"))
      (λ kind made. if_lasts Memory _ _ _ (width_lasts layers)
      (if_lasts Memory _ _ _ (space_lasts layers) (if_lasts Memory _ _ _ (enclose_lasts layers) (range_lasts Memory s o Rule (codes "kind")))))

  other_names_last : (name key : List ℕ) → Lasts Memory (other_names name s key)
  other_names_last name key =
      then_lasts Memory _ _ (then_lasts Memory _ _ (texts_last Memory s o key) (λ names made. counted_lasts Memory s o 2 8 key names))
      (λ names made. if_lasts Memory _ _ _ (range_lasts Memory s o (List (List ℕ)) key) (ok_lasts Memory names))

  connect_lasts : (layers : List Layer) → Lasts Memory (connect_in layers s)
  unfolding connect_in
  connect_lasts layers =
      then_lasts Memory _ _ (text_lasts Memory s o (codes "cut"))
      (λ name made. then_lasts Memory _ _ (index_lasts layers (codes "cut") name)
      (λ cut made. then_lasts Memory _ _ (other_names_last name (codes "to"))
      (λ names made. then_lasts Memory _ _ (indices_last layers (codes "to") names) (λ to made. ok_lasts Memory _))))

  size_lasts : (key : List ℕ) → Lasts Memory (size_under s key)
  size_lasts key = number_lasts Memory s o (pos 1) (pos 65536) key

  cut_lasts : (width : ℤ) → Lasts Memory (cut_under width s)
  cut_lasts width =
      then_lasts Memory _ _ (size_lasts (codes "cut"))
      (λ cut made. if_lasts Memory _ _ _ (ok_lasts Memory cut) (range_lasts Memory s o ℤ (codes "cut")))

  new_names_last : (count : ℕ) (taken : List (List ℕ)) (key : List ℕ) → Lasts Memory (new_names count taken s key)
  new_names_last count taken key =
      then_lasts Memory _ _ (then_lasts Memory _ _ (texts_last Memory s o key) (λ names made. counted_lasts Memory s o count count key names))
      (λ names made. if_lasts Memory _ _ _ (ok_lasts Memory names) (range_lasts Memory s o (List (List ℕ)) key))

  wire_lasts : (layers : List Layer) → Lasts Memory (wire_in layers s)
  unfolding wire_in
  wire_lasts layers =
      then_lasts Memory _ _ (size_lasts (codes "width"))
      (λ width made. then_lasts Memory _ _ (size_lasts (codes "space"))
      (λ space made. then_lasts Memory _ _ (cut_lasts width)
      (λ cut made. then_lasts Memory _ _ (new_names_last 4 [] (codes "metals"))
      (λ metal_names made. then_lasts Memory _ _ (indices_last layers (codes "metals") metal_names)
      (λ metals made. then_lasts Memory _ _ (new_names_last 3 metal_names (codes "cuts"))
      (λ cut_names made. then_lasts Memory _ _ (indices_last layers (codes "cuts") cut_names) (λ cuts made. ok_lasts Memory _)))))))

  model_lasts : Lasts Memory (model_under s)
  model_lasts =
      then_lasts Memory _ _ (text_lasts Memory s o (codes "model"))
      (λ model made. if_lasts Memory _ _ _ (ok_lasts Memory model) (range_lasts Memory s o (List ℕ) (codes "model")))

  third_lasts : (gate active : List ℕ) → Lasts Memory (third_name gate active s)
  third_lasts gate active =
      then_lasts Memory _ _ (text_lasts Memory s o (codes "by"))
      (λ by made. if_lasts Memory _ _ _ (ok_lasts Memory by) (range_lasts Memory s o (List ℕ) (codes "by")))

  device_lasts : (layers : List Layer) → Lasts Memory (device_in layers s)
  unfolding device_in
  device_lasts layers =
      then_lasts Memory _ _ model_lasts
      (λ model made. then_lasts Memory _ _ (text_lasts Memory s o (codes "gate"))
      (λ gate_name made. then_lasts Memory _ _ (index_lasts layers (codes "gate") gate_name)
      (λ gate made. then_lasts Memory _ _ (text_lasts Memory s o (codes "active"))
      (λ active_name made. then_lasts Memory _ _ (index_lasts layers (codes "active") active_name)
      (λ active made. then_lasts Memory _ _ (third_lasts gate_name active_name)
      (λ by_name made. then_lasts Memory _ _ (index_lasts layers (codes "by") by_name) (λ by made. ok_lasts Memory _)))))))

  role_lasts : (role : List ℕ) → Lasts Memory (role_cell s role)
  role_lasts role =
      then_lasts Memory _ _ (text_lasts Memory s o role)
      (λ cell made. if_lasts Memory _ _ _ (ok_lasts Memory _) (range_lasts Memory s o RoleName role))

  role_rows_last : (role : List ℕ) → Lasts Memory (role_rows s role)
  role_rows_last role = then_lasts Memory _ _ (texts_last Memory s o role) (λ rows made. ok_lasts Memory _)

-- the parts of a document
module _ (s : Section TechFault) (o : Others s) where
  layer_lasts : (before : List Layer) (d : Data) → Lasts Memory (layer_of s before d)
  unfolding layer_of
  layer_lasts before d =
      let t = item_section s (codes "layer") (length before) d in
      let p = item_others s (codes "layer") (length before) d o in
      then_lasts Memory (name_under before t) _ (name_lasts t p before)
      (λ name made. then_lasts Memory (numbers_under t (codes "gds")) _ (numbers_last t p (codes "gds"))
      (λ gds made. then_lasts Memory (text_numbers t gds) _
      (if_lasts Memory (has_key t (codes "text")) _ _ (numbers_last t p (codes "text")) (ok_lasts Memory gds))
      (λ text made. ok_lasts Memory _)))

  layers_last : Lasts Memory (layers_under s)
  layers_last =
      then_lasts Memory _ (in_turn (layer_of s) []) (tables_last Memory s o 1 64 (codes "layer"))
      (λ ds made. turns_last Memory (layer_of s) [] ds layer_lasts)

  rules_last : (layers : List Layer) → Lasts Memory (rules_under layers s)
  rules_last layers =
      then_lasts Memory _ (in_turn (rule_of layers s) []) (optional_tables_last Memory s o 256 (codes "rule"))
      (λ ds made. turns_last Memory (rule_of layers s) [] ds
      (λ before d. rule_lasts (item_section s (codes "rule") (length before) d) (item_others s (codes "rule") (length before) d o) layers))

  connects_last : (layers : List Layer) → Lasts Memory (connects_under layers s)
  connects_last layers =
      then_lasts Memory _ (in_turn (connect_of layers s) []) (optional_tables_last Memory s o 64 (codes "connect"))
      (λ ds made. turns_last Memory (connect_of layers s) [] ds
      (λ before d. connect_lasts (item_section s (codes "connect") (length before) d)
      (item_others s (codes "connect") (length before) d o) layers))

  devices_last : (layers : List Layer) → Lasts Memory (devices_under layers s)
  devices_last layers =
      if_lasts Memory (has_key s (codes "device")) _ _
      (then_lasts Memory _ (in_turn (device_of layers s) []) (tables_last Memory s o 1 8 (codes "device"))
      (λ ds made. turns_last Memory (device_of layers s) [] ds
      (λ before d. device_lasts (item_section s (codes "device") (length before) d) (item_others s (codes "device") (length before) d o) layers)))
      (ok_lasts Memory [])

  wires_last : (layers : List Layer) → Lasts Memory (wire_under layers s)
  wires_last layers =
      if_lasts Memory (has_key s (codes "wire")) _ _
      (then_lasts Memory (section_under s (codes "wire")) _ (section_lasts Memory s o (codes "wire"))
      (λ w made. then_lasts Memory (wire_in layers w) _ (wire_lasts w (section_others Memory s o (codes "wire") w made) layers)
      (λ wire given. ok_lasts Memory (Some wire))))
      (ok_lasts Memory None)

  roles_last : Lasts Memory (roles_under s)
  roles_last =
      if_lasts Memory (has_key s (codes "role")) _ _
      (then_lasts Memory (section_under s (codes "role")) _ (section_lasts Memory s o (codes "role"))
      (λ r made. turns_last Memory (λ _ role. role_cell r role) [] (roles_in r role_names)
      (λ some role. role_lasts r (section_others Memory s o (codes "role") r made) role)))
      (ok_lasts Memory [])

  rows_last : Lasts Memory (rows_under s)
  rows_last =
      if_lasts Memory (has_key s (codes "table")) _ _
      (then_lasts Memory (section_under s (codes "table")) _ (section_lasts Memory s o (codes "table"))
      (λ r made. turns_last Memory (λ _ role. role_rows r role) [] (roles_in r role_names)
      (λ some role. role_rows_last r (section_others Memory s o (codes "table") r made) role)))
      (ok_lasts Memory [])

  wires_allowed_last : (tech : Tech) (bad : Option Layer)
      → Lasts Memory (unwrap_or (option_map (λ (layer : Layer). Err (BadWire layer.name)) bad) (Ok tech))
  wires_allowed_last tech None = ok_lasts Memory tech
  wires_allowed_last tech (Some layer) = err_lasts Tech Memory (BadWire layer.name) (λ e. absurd (cc))

  tech_lasts : Lasts Memory (tech_in s)
  unfolding tech_in
  tech_lasts =
      then_lasts Memory (layers_under s) _ layers_last
      (λ layers made. then_lasts Memory (layer_under layers s (codes "outline")) _ (layer_under_lasts s o layers (codes "outline"))
      (λ outline made. then_lasts Memory (rules_under layers s) _ (rules_last layers)
      (λ rules made. then_lasts Memory (connects_under layers s) _ (connects_last layers)
      (λ connects made. then_lasts Memory (wire_under layers s) _ (wires_last layers)
      (λ wire made. then_lasts Memory (roles_under s) _ roles_last
      (λ roles made. then_lasts Memory (rows_under s) _ rows_last
      (λ tables made. then_lasts Memory (devices_under layers s) _ (devices_last layers)
      (λ devices made.
      let tech : Tech =
      record {
        layers = layers;
        outline = outline;
        rules = rules;
        connects = connects;
        wire = wire;
        roles = roles;
        tables = tables;
        devices = devices;
      } in
      wires_allowed_last tech (bad_layer tech)))))))))

tech_others : (d : Data) → Others (whole tech_faults d)
tech_others d = record { missing = λ key e. absurd (cc); wrong_kind = λ key e. absurd (cc); out_of_range = λ key e. absurd (cc) }

pub technologies_last : TechnologiesLast
technologies_last bytes fault is same =
    then_lasts Memory (ok_or (document bytes) NotToml) (λ ms. tech_in (whole tech_faults (table ms)))
    (or_lasts Memory (document bytes) NotToml (λ e. absurd (cc)))
    (λ ms made. tech_lasts (whole tech_faults (table ms)) (tech_others (table ms))) (is ∙ ap (λ (f : TechFault). Err f) same)
