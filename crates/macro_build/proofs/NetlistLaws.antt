-- The macro's subcircuits behind those of the kit are its netlist, and can be written and read.
use Rattle.std.proofs.Common.{◌≡◌, ◌⊎◌, inl, inr, ℕ, suc, ◌-◌, ◌≤◌, ◌<◌, List, [], ◌∷◌, ◌++◌, length, Bool, true, false, cond, Some, Result, Ok, refl, sym, ap, subst, ◌∙◌, arith}
use Rattle.std.specs.Prelude.{IsTrue, ◌&&◌, ◌||◌, not, nat_le, nat_eq, slice_get}
use Rattle.std.specs.List.{AllByRecursion, list_all}
use Rattle.std.specs.Str.{bytes_eq}
use Rattle.std.proofs.lemmas.Bool.{leb-true, eqb-true}
use Rattle.std.proofs.lemmas.List.Elements.{recursion_from_All}
use Rattle.netlist.specs.declared.deck.Deck.{Deck}
use Rattle.spice_text.specs.Deck.{deck}
use Rattle.spice_text.specs.Appended.{appended, with_lf}
use Rattle.spice_text.specs.Writable.{IsName, IsNameByte, AreWritable}
use Rattle.tech_rules.specs.declared.tech.RoleName.{RoleName}
use Rattle.tech_rules.specs.Roles.{is_cell_byte, is_cell_name}
use Rattle.cell_roles.specs.declared.role.Role.{Role}
use Rattle.cell_roles.specs.declared.role.Role.TheVariants.{Bitcell}
use Rattle.cell_roles.specs.declared.leaf_role.LeafRole.TheVariants as leaf_role
use Rattle.cell_roles.specs.Roles.{role_name}
use Rattle.cell_roles.specs.LeafRoles.{leaf_role_name}
use Rattle.sram_netlist.specs.Numbers.{ArePlanNumbers}
use Rattle.sram_netlist.specs.BitCells.{bit_cell, fixed_bit}
use Rattle.sram_plan.specs.declared.numbers.Plan.{Plan}
use Rattle.sram_plan.specs.Config.{is_identifier, is_letter_byte, is_name_char, is_output_name, starts_with_letter}
use Rattle.sram_plan.specs.Keywords.{is_keyword}
use Rattle.sram_plan.specs.PlanNumbers.{numbers_of, organization}
use Rattle.sram_rows.specs.Rows.{RowsEqualNetlist, DeckIsNetlist}
use Rattle.sram_rows.specs.Writing.{AreBitNames, CellsAreNames, WrittenSubcktsAreRead, WrittenSubcktsAreWritable}
use Rattle.leaf_tables.specs.declared.kit.Kit.{Kit}
use Rattle.leaf_tables.specs.Kits.{IsKit}
use Rattle.port_lists.specs.Cells.{cell_in, named_cell}
use Rattle.port_lists.specs.Held.{Held}
use Rattle.port_lists.specs.Held.Held.{Stored, Fixed}
use Rattle.sram_macro.specs.declared.assembly.Macro.{Macro}
use Rattle.sram_macro.specs.Leaves.{leaf_names}
use Rattle.sram_macro.specs.Macro.{IsMacro, macro_bits}
use Rattle.sram_macro.proofs.MemoryLaws.{subckts_are}
use Rattle.macro_build.specs.Written.{read_subckts, IsReadInLowerCase, IsReferenceNetlist}

one_ok : {E : Type 0} (a b : Deck) (given : Result Deck E) → given ≡ Ok a → given ≡ Ok b → a ≡ b
one_ok a b given e f = cc

-- Names

both_true : (s t : Bool) → (s && t) ≡ true → (s ≡ true) × (t ≡ true)
both_true true true h = (refl, refl)
both_true true false h = absurd cc
both_true false t h = absurd cc

one_true : (s t : Bool) → (s || t) ≡ true → (s ≡ true) ⊎ (t ≡ true)
one_true true t h = inl refl
one_true false t h = inr h

all_pass : (p : ℕ → Bool) (P : ℕ → Type 0) → ((b : ℕ) → p b ≡ true → P b) → (bytes : List ℕ) → list_all p bytes ≡ true → AllByRecursion P bytes
all_pass p P each [] h = tt
all_pass p P each (b ∷ bytes) h = let two = both_true (p b) (list_all p bytes) h in (each b two.0, all_pass p P each bytes two.1)

between : (low high b : ℕ) → (nat_le low b && nat_le b high) ≡ true → (low ≤ b) × (b ≤ high)
between low high b h = let two = both_true (nat_le low b) (nat_le b high) h in (leb-true low b two.0, leb-true b high two.1)

letter_name : (b : ℕ) → is_letter_byte b ≡ true → IsNameByte b
letter_name b h = elim (one_true (nat_le 65 b && nat_le b 90) (nat_le 97 b && nat_le b 122) h) [
  | inl capital ↦ let two = between 65 90 b capital in record { above = omega (arith, two.0); below = omega (arith, two.1); other = omega (arith, two.0) }
  | inr small ↦ let two = between 97 122 b small in record { above = omega (arith, two.0); below = omega (arith, two.1); other = omega (arith, two.0) }
]

char_name : (b : ℕ) → is_name_char b ≡ true → IsNameByte b
char_name b h = elim (one_true (is_letter_byte b) ((nat_le 48 b && nat_le b 57) || nat_eq b 95) h) [
  | inl letter ↦ letter_name b letter
  | inr other ↦ elim (one_true (nat_le 48 b && nat_le b 57) (nat_eq b 95) other) [
    | inl digit ↦ let two = between 48 57 b digit in record { above = omega (arith, two.0); below = omega (arith, two.1); other = omega (arith, two.1) }
    | inr line ↦ let e : b ≡ 95 = eqb-true b 95 line in record { above = omega (arith, e); below = omega (arith, e); other = omega (arith, e) }
  ]
]

begun_some : (text : List ℕ) → starts_with_letter text ≡ true → 0 < length text
begun_some [] h = absurd cc
begun_some (b ∷ text) h = omega arith

-- an output name can be written
pub output_is_name : (text : List ℕ) → IsTrue (is_output_name text) → IsName text
output_is_name text h =
    let is = (both_true (is_identifier text) (not (is_keyword text)) h).0 in
    let rest = (both_true (nat_le (length text) 24) (starts_with_letter text && list_all is_name_char text) is).1 in
    let two = both_true (starts_with_letter text) (list_all is_name_char text) rest in
    record { some = begun_some text two.0; bytes = all_pass is_name_char IsNameByte char_name text two.1 }

abbrev IsPrinted : ℕ → Type 0
IsPrinted b = (33 ≤ b) × (b ≤ 126)

cell_printed : (text : List ℕ) → IsTrue (is_cell_name text) → AllByRecursion IsPrinted text
cell_printed text h =
    let two = both_true (nat_le 1 (length text) && nat_le (length text) 32) (list_all is_cell_byte text) h in
    all_pass is_cell_byte IsPrinted (λ b. between 33 126 b) text two.1

named_printed : (roles : List RoleName) → AllByRecursion (λ r. IsTrue (is_cell_name r.cell)) roles → (role : List ℕ) → AllByRecursion IsPrinted (named_cell roles role)
named_printed [] h role = tt
named_printed (r ∷ rs) h role =
    elim (bytes_eq r.role role) as (λ v. AllByRecursion IsPrinted (cond v r.cell (named_cell rs role))) [ true ↦ cell_printed r.cell h.0 | false ↦ named_printed rs h.1 role ]

cells_printed : (kit : Kit) → IsKit kit → (role : List ℕ) → AllByRecursion IsPrinted (named_cell kit.tech.roles role)
cells_printed kit k = named_printed kit.tech.roles (recursion_from_All (λ (r : RoleName). IsTrue (is_cell_name r.cell)) kit.tech.roles k.tech.roles)

-- and so can the names of the cells
pub cells_have_names : CellsAreNames → (kit : Kit) (plan : Plan) (held : Held) (name : List ℕ) (m : Macro) → IsKit kit → IsMacro kit plan held name m → (role : Role) → IsName (cell_in kit.tech.roles role)
cells_have_names law kit plan held name m k is role =
    law kit.text kit.deck (cell_in kit.tech.roles role) role k.text (is.leaves.roles role) (cells_printed kit k (role_name role))

bits_printed : (kit : Kit) (plan : Plan) (held : Held) → IsKit kit → (r c : ℕ) → AllByRecursion IsPrinted (bit_cell (macro_bits kit plan held) r c)
bits_printed kit plan Stored k r c = cells_printed kit k (role_name Bitcell)
bits_printed kit plan (Fixed words) k r c = cells_printed kit k (leaf_role_name (leaf_role.Fixed (fixed_bit (organization plan) words r c)))

pub bits_have_names : CellsAreNames → (kit : Kit) (plan : Plan) (held : Held) (name : List ℕ) (m : Macro) → IsKit kit → IsMacro kit plan held name m → AreBitNames (organization plan) (macro_bits kit plan held)
bits_have_names law kit plan held name m k is r c row column =
    law kit.text kit.deck (bit_cell (macro_bits kit plan held) r c) Bitcell k.text (is.leaves.of_bits r c row column).is (bits_printed kit plan held k r c)

-- so the macro's subcircuits can be written
pub can_be_written : CellsAreNames → WrittenSubcktsAreWritable → (kit : Kit) (plan : Plan) (held : Held) (name : List ℕ) (m : Macro) → IsKit kit → ArePlanNumbers (numbers_of plan) → IsTrue (is_output_name name) → IsMacro kit plan held name m
    → AreWritable m.deck.subckts
can_be_written names writable kit plan held name m k numbers output is =
    subst AreWritable (sym (subckts_are kit plan held name m is))
    (writable (organization plan) (cell_in kit.tech.roles) (macro_bits kit plan held) name numbers.plan (cells_have_names names kit plan held name m k is) (bits_have_names names kit plan held name m k is) (output_is_name name output))

-- as they are read behind the kit's text
pub read_in_lower_case : CellsAreNames → WrittenSubcktsAreRead → (kit : Kit) (plan : Plan) (held : Held) (name : List ℕ) (m : Macro) (text : List ℕ) → IsKit kit → ArePlanNumbers (numbers_of plan) → IsTrue (is_output_name name)
    → IsMacro kit plan held name m → text ≡ appended kit.deck kit.text m.deck.subckts → IsReadInLowerCase kit plan held name text
read_in_lower_case names law kit plan held name m text k numbers output is text_is =
    let all = law kit.text kit.deck (organization plan) (cell_in kit.tech.roles) (macro_bits kit plan held) (leaf_names kit held) name k.text numbers.plan is.leaves
    (cells_have_names names kit plan held name m k is) (bits_have_names names kit plan held name m k is) (output_is_name name output) in
    subst (λ (t : List ℕ). IsReadInLowerCase kit plan held name t) (sym (text_is ∙ ap (appended kit.deck kit.text) (subckts_are kit plan held name m is))) all.1

pub read_netlist : RowsEqualNetlist → (kit : Kit) (plan : Plan) (held : Held) (name : List ℕ) (m : Macro) (text : List ℕ) → ArePlanNumbers (numbers_of plan) → IsMacro kit plan held name m
    → IsReadInLowerCase kit plan held name text → IsReferenceNetlist kit plan held name text
read_netlist law kit plan held name m text numbers is read d given =
    let made : Deck = record { subckts = read_subckts kit plan held name; used = length text } in
    let same : made ≡ d = one_ok made d (deck text) read given in
    subst (λ (e : Deck). DeckIsNetlist (organization plan) (cell_in kit.tech.roles) (macro_bits kit plan held) (leaf_names kit held) e.subckts name) same
    (law (organization plan) (cell_in kit.tech.roles) (macro_bits kit plan held) (leaf_names kit held) kit.deck.subckts name name numbers.plan is.leaves refl).1

-- Ends of lines

pushed : (v : Bool) (x : ℕ) (xs ys : List ℕ) → (x ∷ cond v xs ys) ≡ cond v (x ∷ xs) (x ∷ ys)
pushed true x xs ys = refl
pushed false x xs ys = refl

turned : (v : Bool) (xs ys : List ℕ) → cond v xs ys ≡ cond (not v) ys xs
turned true xs ys = refl
turned false xs ys = refl

pub lf_last : (xs : List ℕ) (b : ℕ) → Some b ≡ slice_get xs (length xs - 1) → with_lf xs ≡ cond (not (nat_eq b 10)) (xs ++ 10 ∷ []) xs
lf_last [] b h = absurd cc
lf_last (x ∷ []) b h =
    let same : b ≡ x = cc in
    subst (λ (y : ℕ). with_lf (x ∷ []) ≡ cond (not (nat_eq y 10)) (x ∷ 10 ∷ []) (x ∷ [])) (sym same) (turned (nat_eq x 10) (x ∷ []) (x ∷ 10 ∷ []))
lf_last (x ∷ y ∷ xs) b h =
    let e : length (x ∷ y ∷ xs) - 1 ≡ suc (length (y ∷ xs) - 1) = omega arith in
    let later : Some b ≡ slice_get (y ∷ xs) (length (y ∷ xs) - 1) = subst (λ (k : ℕ). Some b ≡ slice_get (x ∷ y ∷ xs) k) e h in
    ap (λ (l : List ℕ). x ∷ l) (lf_last (y ∷ xs) b later) ∙ pushed (not (nat_eq b 10)) x ((y ∷ xs) ++ 10 ∷ []) (y ∷ xs)
