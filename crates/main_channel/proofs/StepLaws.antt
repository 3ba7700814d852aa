-- Pins of one port, cell, rail, bit or bank more.
use Rattle.std.proofs.Common.{◌≡◌, ℕ, zero, suc, ◌+◌, ◌*◌, ◌<◌, ℤ, pos, ◌+ℤ◌, ◌*ℤ◌, List, [], ◌∷◌, ◌++◌, map, length, get_or, Option, Some, ap, sym, subst, ◌∙◌, append_assoc, arith}
use Rattle.std.specs.Prelude.{slice_get, take}
use Rattle.std.proofs.lemmas.Int.{ints}
use Rattle.std.proofs.lemmas.List.{append-nil, get_or_default}
use Rattle.cell_roles.specs.declared.role.Role.{Role}
use Rattle.cell_roles.specs.declared.role.Role.TheVariants.{Bitcell, Sense}
use Rattle.netlist.specs.declared.deck.Instance.{Instance}
use Rattle.channel_router.specs.declared.channel.ChannelPin.{ChannelPin}
use Rattle.sram_netlist.specs.Organization.{Organization, words_per_row}
use Rattle.sram_netlist.specs.Nets.{Dout}
use Rattle.sram_netlist.specs.Names.{net_name}
use Rattle.sram_netlist.specs.InstanceList.{tabulate, tabulate_lists}
use Rattle.macro_layout.specs.Pins.{rail_nets}
use Rattle.port_lists.proofs.TabulateLaws.{tabulate_more, grown_by_list}
use Rattle.main_channel.specs.Pins.{numbered_net}
use Rattle.main_channel.specs.Row.{port_channel_pin, cell_channel_pins, row_pins}
use Rattle.main_channel.specs.Formula.{main_exit}
use Rattle.main_channel.specs.Banks.{rail_channel_pin, bank_rail_pins, write_pins, written_pins, bit_begin, bit_channel_pins, slice_pins, columns_begin, bank_pins}

-- two lists more
pub two_lists : {A : Type 0} (old mid new first second : List A) → mid ≡ old ++ first → new ≡ mid ++ second → new ≡ old ++ (first ++ second)
two_lists {A = A} old mid new first second a b = b ∙ (ap (λ (l : List A). l ++ second) a ∙ append_assoc old first second)

-- pins of a write cell more, where one stands there
pub write_more : (w : ℕ) (old new pins : List ChannelPin) → 0 < w → new ≡ old ++ pins → new ≡ old ++ written_pins w pins
write_more zero old new pins some is = absurd (omega (arith, some))
write_more (suc w) old new pins some is = is

-- from an empty list on
pub from_none : {A : Type 0} (none new same all : List A) → none ≡ [] → new ≡ none ++ all → same ≡ new → same ≡ all
from_none {A = A} none new same all empty is e = e ∙ (is ∙ ap (λ (l : List A). l ++ all) empty)

-- the pin of a name, by other words
pub named_as : (look : List ℕ → Option ℕ) (name other : List ℕ) (at to : ℤ) (old new : List ChannelPin) → new ≡ old ++ numbered_net look name at → name ≡ other → at ≡ to → new ≡ old ++ numbered_net look other to
named_as look name other at to old new is e f = is ∙ (λ i. old ++ numbered_net look (e i) (f i))

-- a name of a list, as it is read
pub name_read : (names same : List (List ℕ)) (k : ℕ) (item name : List ℕ) → names ≡ same → k < length same → item ≡ get_or names k item → name ≡ item → name ≡ get_or same k []
name_read names same k item name e less at is =
    let long = ap length e in
    is ∙ (at ∙ (get_or_default names k item [] (omega (arith, long, less)) ∙ ap (λ (l : List (List ℕ)). get_or l k []) e))

-- a port more
pub port_more : (begin : ℕ → ℤ) (look : List ℕ → Option ℕ) (nodes : List (List ℕ)) (from here : ℤ) (old now new : List ChannelPin) (k : ℕ) (name : List ℕ) → now ≡ old ++ tabulate_lists k (port_channel_pin begin look nodes from)
    → new ≡ now ++ numbered_net look name (here +ℤ begin k) → name ≡ get_or nodes k [] → here ≡ from → new ≡ old ++ tabulate_lists (k + 1) (port_channel_pin begin look nodes from)
port_more begin look nodes from here old now new k name before more named at =
    grown_by_list old now new k (port_channel_pin begin look nodes from) before (more ∙ (λ i. now ++ numbered_net look (named i) (at i +ℤ begin k)))

pub all_ports : (begin : ℕ → ℤ) (look : List ℕ → Option ℕ) (nodes : List (List ℕ)) (from to : ℤ) (k n : ℕ) (old new : List ChannelPin) → new ≡ old ++ tabulate_lists k (port_channel_pin begin look nodes from) → from ≡ to → k ≡ n
    → new ≡ old ++ tabulate_lists n (port_channel_pin begin look nodes to)
all_ports begin look nodes from to k n old new is e f = is ∙ (λ i. old ++ tabulate_lists (f i) (port_channel_pin begin look nodes (e i)))

-- the widths of the cells of roles, added up
abbrev pub widths_of : (Role → ℕ) → List Role → ℕ
widths_of width [] = 0
widths_of width (r ∷ rs) = width r + widths_of width rs

-- a cell more
widths_more : (width : Role → ℕ) (k : ℕ) (roles : List Role) (role : Role) → slice_get roles k ≡ Some role → widths_of width (take (suc k) roles) ≡ widths_of width (take k roles) + width role
widths_more width k [] role at = absurd cc
widths_more width zero (r ∷ rs) role at = let e : r ≡ role = cc in ap (λ (n : ℕ). n + 0) (ap width e) ∙ omega arith
widths_more width (suc k) (r ∷ rs) role at = let more = widths_more width k rs role at in omega (arith, more)

pub row_step : (width : Role → ℕ) (k : ℕ) (roles : List Role) (role : Role) (from x wide : ℤ) → slice_get roles k ≡ Some role → x ≡ from +ℤ pos (widths_of width (take k roles)) → wide ≡ pos (width role) → x +ℤ wide ≡ from +ℤ pos (widths_of width (take (k + 1) roles))
row_step width k roles role from x wide at is sized =
    let more = widths_more width k roles role at in
    let next : k + 1 ≡ suc k = omega arith in
    subst (λ (n : ℕ). x +ℤ wide ≡ from +ℤ pos (widths_of width (take n roles))) (sym next) (omega (arith, ints, is, sized, more))

module _ (begin : Role → ℕ → ℤ) (width : Role → ℕ) (look : List ℕ → Option ℕ) where
  abbrev row_to : List Instance → List Role → ℤ → ℕ → List ChannelPin
  row_to gates roles from k = row_pins begin width look (take k gates) (take k roles) from

  row_suc : (gates : List Instance) (roles : List Role) (from : ℤ) (k : ℕ) (gate : Instance) (role : Role) → slice_get gates k ≡ Some gate → slice_get roles k ≡ Some role
      → row_to gates roles from (suc k) ≡ row_to gates roles from k ++ cell_channel_pins begin look role gate (from +ℤ pos (widths_of width (take k roles)))
  row_suc [] roles from k gate role there plays = absurd cc
  row_suc (g ∷ gs) [] from k gate role there plays = absurd cc
  row_suc (g ∷ gs) (r ∷ rs) from zero gate role there plays =
      let e : g ≡ gate = cc in
      let f : r ≡ role = cc in
      let here : from ≡ from +ℤ pos 0 = omega (arith, ints) in
      append-nil (cell_channel_pins begin look r g from) ∙ (λ i. cell_channel_pins begin look (f i) (e i) (here i))
  row_suc (g ∷ gs) (r ∷ rs) from (suc k) gate role there plays =
      let first = cell_channel_pins begin look r g from in
      let rest = row_to gs rs (from +ℤ pos (width r)) k in
      let here : (from +ℤ pos (width r)) +ℤ pos (widths_of width (take k rs)) ≡ from +ℤ pos (width r + widths_of width (take k rs)) = omega (arith, ints) in
      ap (λ (l : List ChannelPin). first ++ l) (row_suc gs rs (from +ℤ pos (width r)) k gate role there plays ∙ ap (λ (z : ℤ). rest ++ cell_channel_pins begin look role gate z) here)
      ∙ sym (append_assoc first rest (cell_channel_pins begin look role gate (from +ℤ pos (width r + widths_of width (take k rs)))))

  pub cell_more : (gates : List Instance) (roles : List Role) (from here : ℤ) (old now new : List ChannelPin) (k : ℕ) (gate : Instance) (role : Role) → slice_get gates k ≡ Some gate → slice_get roles k ≡ Some role
      → here ≡ from +ℤ pos (widths_of width (take k roles)) → now ≡ old ++ row_to gates roles from k → new ≡ now ++ cell_channel_pins begin look role gate here → new ≡ old ++ row_to gates roles from (k + 1)
  cell_more gates roles from here old now new k gate role there plays at before more =
      let next : suc k ≡ k + 1 = omega arith in
      two_lists old now new (row_to gates roles from k) (cell_channel_pins begin look role gate (from +ℤ pos (widths_of width (take k roles)))) before (more ∙ ap (λ (z : ℤ). now ++ cell_channel_pins begin look role gate z) at)
      ∙ (ap (λ (l : List ChannelPin). old ++ l) (sym (row_suc gates roles from k gate role there plays)) ∙ ap (λ (n : ℕ). old ++ row_to gates roles from n) next)

  pub all_cells : (gates : List Instance) (roles : List Role) (from to : ℤ) (k : ℕ) (old new : List ChannelPin) → new ≡ old ++ row_to gates roles from k → from ≡ to → take k gates ≡ gates → take k roles ≡ roles → new ≡ old ++ row_pins begin width look gates roles to
  all_cells gates roles from to k old new is e f g = is ∙ (λ i. old ++ row_pins begin width look (f i) (g i) (e i))

-- a rail more
module _ (look : List ℕ → Option ℕ) (names : List (List ℕ)) where
  pub rail_more : (from step at left : ℤ) (old now new : List ChannelPin) (k : ℕ) (name : List ℕ) → now ≡ old ++ tabulate_lists k (rail_channel_pin look names from step) → new ≡ now ++ numbered_net look name at
      → name ≡ get_or names k [] → at ≡ from +ℤ left → left ≡ pos (k + 1) *ℤ step → new ≡ old ++ tabulate_lists (k + 1) (rail_channel_pin look names from step)
  rail_more from step at left old now new k name before more named from_left left_is =
      let here = from_left ∙ ap (λ (z : ℤ). from +ℤ z) left_is in
      grown_by_list old now new k (rail_channel_pin look names from step) before (more ∙ (λ i. now ++ numbered_net look (named i) (here i)))

  pub all_rails : (from to step pitch : ℤ) (k n : ℕ) (old new : List ChannelPin) → new ≡ old ++ tabulate_lists k (rail_channel_pin look names from step) → from ≡ to → step ≡ pitch → k ≡ n → new ≡ old ++ tabulate_lists n (rail_channel_pin look names to pitch)
  all_rails from to step pitch k n old new is e f g = is ∙ (λ i. old ++ tabulate_lists (g i) (rail_channel_pin look names (e i) (f i)))

-- a bit more
module _ (begin : Role → ℕ → ℤ) (width : Role → ℕ) (look : List ℕ → Option ℕ) (plan : Organization) where
  abbrev one_bit : ℕ → ℕ → ℤ → List ChannelPin
  one_bit bank k at = written_pins plan.write_size (write_pins begin look plan bank k at) ++ numbered_net look (net_name plan (Dout k)) (at +ℤ begin Sense 2)

  pub bit_more : (bank : ℕ) (from at columns wide : ℤ) (old now mid new : List ChannelPin) (k words : ℕ) → now ≡ old ++ tabulate_lists k (bit_channel_pins begin width look plan bank from)
      → mid ≡ now ++ written_pins plan.write_size (write_pins begin look plan bank k at) → new ≡ mid ++ numbered_net look (net_name plan (Dout k)) (at +ℤ begin Sense 2)
      → at ≡ from +ℤ columns → columns ≡ pos (k * words) *ℤ wide → words ≡ words_per_row plan → wide ≡ pos (width Bitcell) → new ≡ old ++ tabulate_lists (k + 1) (bit_channel_pins begin width look plan bank from)
  bit_more bank from at columns wide old now mid new k words before write sense from_columns columns_are words_are sized =
      let is : at ≡ bit_begin width plan from k = from_columns ∙ ap (λ (z : ℤ). from +ℤ z) (columns_are ∙ (λ i. pos (k * words_are i) *ℤ sized i)) in
      grown_by_list old now new k (bit_channel_pins begin width look plan bank from) before
      (two_lists now mid new (written_pins plan.write_size (write_pins begin look plan bank k at)) (numbered_net look (net_name plan (Dout k)) (at +ℤ begin Sense 2)) write sense ∙ ap (λ (z : ℤ). now ++ one_bit bank k z) is)

  pub all_bits : (bank : ℕ) (from to : ℤ) (k n : ℕ) (old new : List ChannelPin) → new ≡ old ++ tabulate_lists k (bit_channel_pins begin width look plan bank from) → from ≡ to → k ≡ n → new ≡ old ++ tabulate_lists n (bit_channel_pins begin width look plan bank to)
  all_bits bank from to k n old new is e f = is ∙ (λ i. old ++ tabulate_lists (f i) (bit_channel_pins begin width look plan bank (e i)))

  -- a bank more
  abbrev one_bank : ℕ → List (List ℕ) → ℤ → ℤ → ℤ → List ChannelPin
  one_bank bank names at step behind = bank_rail_pins look names at step ++ slice_pins begin width look plan bank behind

  pub bank_more : (step row_x bank_width at begun wide columns behind : ℤ) (old now mid new : List ChannelPin) (k : ℕ) (names : List (List ℕ)) → names ≡ map (net_name plan) (rail_nets plan k)
      → now ≡ old ++ tabulate_lists k (bank_pins begin width look plan step row_x bank_width) → mid ≡ now ++ bank_rail_pins look names at step → new ≡ mid ++ slice_pins begin width look plan k behind
      → at ≡ begun → begun ≡ pos k *ℤ wide → wide ≡ bank_width → behind ≡ at +ℤ columns → columns ≡ columns_begin width plan row_x → new ≡ old ++ tabulate_lists (k + 1) (bank_pins begin width look plan step row_x bank_width)
  bank_more step row_x bank_width at begun wide columns behind old now mid new k names named before rails slices at_begun begun_is wide_is behind_is columns_are =
      let is : at ≡ pos k *ℤ bank_width = at_begun ∙ (begun_is ∙ ap (λ (z : ℤ). pos k *ℤ z) wide_is) in
      let far : behind ≡ (pos k *ℤ bank_width) +ℤ columns_begin width plan row_x = behind_is ∙ (λ i. is i +ℤ columns_are i) in
      grown_by_list old now new k (bank_pins begin width look plan step row_x bank_width) before
      (two_lists now mid new (bank_rail_pins look names at step) (slice_pins begin width look plan k behind) rails slices ∙ (λ i. now ++ one_bank k (named i) (is i) step (far i)))

  pub all_banks : (step pitch row_x bank_width : ℤ) (k n : ℕ) (old new : List ChannelPin) → new ≡ old ++ tabulate_lists k (bank_pins begin width look plan step row_x bank_width) → step ≡ pitch → k ≡ n
      → new ≡ old ++ tabulate_lists n (bank_pins begin width look plan pitch row_x bank_width)
  all_banks step pitch row_x bank_width k n old new is e f = is ∙ (λ i. old ++ tabulate_lists (f i) (bank_pins begin width look plan (e i) row_x bank_width))

-- an exit more
pub exit_more : (now new : List ChannelPin) (x : ℤ) (k : ℕ) → now ≡ tabulate k main_exit → new ≡ now ++ record { x = x; net = k } ∷ [] → x ≡ pos 0 → new ≡ tabulate (k + 1) main_exit
exit_more now new x k before more left =
    more ∙ ((λ i. before i ++ record { x = left i; net = k } ∷ []) ∙ sym (tabulate_more k main_exit))
