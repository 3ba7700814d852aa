-- The bits that choose a line, one after another.
use Rattle.std.proofs.Common.{◌≡◌, ℕ, zero, suc, ◌+◌, ◌-◌, ◌<◌, ◌≤◌, ◌/◌, ◌%◌, List, [], ◌∷◌, ◌++◌, map, Bool, true, false, refl, ap, sym, ◌∙◌, append_assoc, arith}
use Rattle.std.proofs.lemmas.List.{append-nil}
use Rattle.sram_netlist.specs.Organization.{Organization}
use Rattle.cell_roles.specs.declared.role.Role.{Role}
use Rattle.cell_roles.specs.declared.role.Role.TheVariants.{Inv}
use Rattle.cell_roles.specs.Roles.{supplies}
use Rattle.sram_netlist.specs.Nets.{LineB}
use Rattle.sram_netlist.specs.Instances.{Pn, Pi}
use Rattle.sram_netlist.specs.Netlist.{lowest_bit, picks, pick, gate_of, supply_nets}
use Rattle.sram_netlist.specs.Names.{LineKind, net_name, with_number, line_kind, line_name, lineb_name, gate_name, inv_name}
use Rattle.sram_deck.specs.Deck.{subckt_instance}
use Rattle.row_decoder.specs.declared.gate.LogicGate.{LogicGate}
use Rattle.row_decoder.specs.Gates.{gate_of_role, logic_gate}
use Rattle.port_lists.proofs.TabulateLaws.{map_append}
use Rattle.row_decoder.specs.Lines.{pick_letter}

pub from_zero : (plan : Organization) (now : List (List ℕ)) (low bits number : ℕ) → now ++ map (net_name plan) (picks (low + 0) (bits - 0) number) ≡ now ++ map (net_name plan) (picks low bits number)
from_zero plan now low bits number =
    let same : low + 0 ≡ low = omega arith in
    let all : bits - 0 ≡ bits = omega arith in
    λ i. now ++ map (net_name plan) (picks (same i) (all i) number)

name_picked : (plan : Organization) (i : ℕ) (b : Bool) → net_name plan (pick i b) ≡ with_number (pick_letter b) i
name_picked plan i true = refl
name_picked plan i false = refl

pub pick_more : (plan : Organization) (now new all : List (List ℕ)) (low bit bits rest : ℕ) (letters : List ℕ) → bit < bits → letters ≡ pick_letter (lowest_bit rest) → new ≡ now ++ with_number letters (low + bit) ∷ []
    → now ++ map (net_name plan) (picks (low + bit) (bits - bit) rest) ≡ all → new ++ map (net_name plan) (picks (low + (bit + 1)) (bits - (bit + 1)) (rest / 2)) ≡ all
pick_more plan now new all low bit bits rest letters less letter added is =
    let left : bits - bit ≡ suc (bits - (bit + 1)) = omega (arith, less) in
    let next : suc (low + bit) ≡ low + (bit + 1) = omega arith in
    let one : with_number letters (low + bit) ≡ net_name plan (pick (low + bit) (lowest_bit rest)) = ap (λ (l : List ℕ). with_number l (low + bit)) letter ∙ sym (name_picked plan (low + bit) (lowest_bit rest)) in
    ap (λ (o : ℕ). new ++ map (net_name plan) (picks o (bits - (bit + 1)) (rest / 2))) (sym next)
    ∙ (ap (λ (l : List (List ℕ)). l ++ map (net_name plan) (picks (suc (low + bit)) (bits - (bit + 1)) (rest / 2))) (added ∙ ap (λ (x : List ℕ). now ++ x ∷ []) one)
    ∙ (append_assoc now (net_name plan (pick (low + bit) (lowest_bit rest)) ∷ []) (map (net_name plan) (picks (suc (low + bit)) (bits - (bit + 1)) (rest / 2)))
    ∙ (ap (λ (n : ℕ). now ++ map (net_name plan) (picks (low + bit) n rest)) (sym left) ∙ is)))

pub picks_done : (plan : Organization) (now all : List (List ℕ)) (low bit bits rest : ℕ) → bits ≤ bit → now ++ map (net_name plan) (picks (low + bit) (bits - bit) rest) ≡ all → now ≡ all
picks_done plan now all low bit bits rest end is =
    let none : bits - bit ≡ 0 = omega (arith, end) in
    sym (append-nil now) ∙ (ap (λ (n : ℕ). now ++ map (net_name plan) (picks (low + bit) n rest)) (sym none) ∙ is)

pub odd_lowest : (n : ℕ) → n % 2 ≡ 1 → lowest_bit n ≡ true
odd_lowest zero odd = absurd (omega (arith, odd))
odd_lowest (suc zero) odd = refl
odd_lowest (suc (suc n)) odd = odd_lowest n (omega (arith, odd))

pub even_lowest : (n : ℕ) → (n % 2 ≡ 1 → ⊥) → lowest_bit n ≡ false
even_lowest zero even = refl
even_lowest (suc zero) even = absurd (even (omega arith))
even_lowest (suc (suc n)) even = even_lowest n (λ odd. even (omega (arith, odd)))

-- the gate of a line, where it is known what the line chooses
pub gate_is : (plan : Organization) (cell : Role → List ℕ) (o b k : ℕ) (kind : LineKind) (made : LogicGate) → line_kind plan o ≡ kind
    → made ≡ record { role = gate_of b; instance = subckt_instance (gate_name kind k) (map (net_name plan) (picks o b k) ++ (lineb_name kind k ∷ supplies)) (cell (gate_of b)) } → made ≡ logic_gate plan cell (Pn o b k)
gate_is plan cell o b k kind made known is =
    is ∙ ((λ i. record { role = gate_of b; instance = subckt_instance (gate_name (sym known i) k) (map (net_name plan) (picks o b k) ++ (lineb_name (sym known i) k ∷ supplies)) (cell (gate_of b)) })
    ∙ ap (λ (nodes : List (List ℕ)). record { role = gate_of b; instance = subckt_instance (gate_name (line_kind plan o) k) nodes (cell (gate_of b)) }) (sym (map_append (net_name plan) (picks o b k) (LineB o b k ∷ supply_nets))))

pub inverter_is : (plan : Organization) (cell : Role → List ℕ) (o b k : ℕ) (kind : LineKind) (made : LogicGate) → line_kind plan o ≡ kind
    → made ≡ gate_of_role cell Inv (inv_name kind k) (lineb_name kind k ∷ line_name kind k ∷ []) → made ≡ logic_gate plan cell (Pi o b k)
inverter_is plan cell o b k kind made known is =
    is ∙ (λ i. gate_of_role cell Inv (inv_name (sym known i) k) (lineb_name (sym known i) k ∷ line_name (sym known i) k ∷ []))

pub nodes_are : (none one two all picked : List (List ℕ)) (line named : List ℕ) → none ≡ [] → one ≡ none ++ picked → two ≡ one ++ line ∷ [] → line ≡ named → all ≡ two ++ supplies → all ≡ picked ++ (named ∷ supplies)
nodes_are none one two all picked line named empty first second is third =
    third ∙ (ap (λ (l : List (List ℕ)). l ++ supplies) (second ∙ (λ i. (first ∙ ap (λ (l : List (List ℕ)). l ++ picked) empty) i ++ is i ∷ [])) ∙ append_assoc picked (named ∷ []) supplies)
