-- The lines of a LEF text as they are written.
use Rattle.std.proofs.Common.{◌≡◌, ℕ, ℤ, List, [], ◌∷◌, ◌++◌, refl, sym, ap, ◌∙◌, append_assoc}
use Rattle.std.specs.Prelude.{codes, flat_map}
use Rattle.sram_plan.specs.declared.view.Abstract.{Abstract}
use Rattle.macro_views.specs.declared.lef.TheConstants.{HEAD}
use Rattle.macro_views.specs.declared.lef.LefBox.{LefBox}
use Rattle.macro_views.specs.Lines.{text_of_lines}
use Rattle.macro_views.specs.Microns.{microns}
use Rattle.macro_views.specs.Lef.{corner_text, box_text, port_lines, pin_lines, blocked_lines, supply_lines, head_lines, size_text}
use Rattle.macro_views.proofs.TextLaws.{text_append, text_flat_map, spread, cut_elsewhere, from_left}

pub blocked_is : (layer : List ℕ) (area : LefBox) → ((codes "    LAYER " ++ layer ++ codes " ;\n      ") ++ box_text area) ++ codes "\n" ≡ text_of_lines (blocked_lines layer area)
blocked_is layer area =
    let box = box_text area in
    append_assoc (codes "    LAYER " ++ layer ++ codes " ;\n      ") box (codes "\n")
    ∙ cut_elsewhere (codes "    LAYER ") layer (codes " ;\n      ") (box ++ codes "\n") (codes " ;") (10 ∷ (codes "      " ++ (box ++ codes "\n"))) refl

pub port_is : (layer : List ℕ) (area : LefBox) → ((codes "    PORT\n      LAYER " ++ layer ++ codes " ;\n        ") ++ box_text area) ++ codes "\n    END\n" ≡ text_of_lines (port_lines layer area)
port_is layer area =
    let box = box_text area in
    append_assoc (codes "    PORT\n      LAYER " ++ layer ++ codes " ;\n        ") box (codes "\n    END\n")
    ∙ cut_elsewhere (codes "    PORT\n      LAYER ") layer (codes " ;\n        ") (box ++ codes "\n    END\n") (codes " ;") (10 ∷ (codes "        " ++ (box ++ codes "\n    END\n"))) refl

pinned : (name direction use_of port : List ℕ) → ((((codes "  PIN " ++ name ++ codes "\n") ++ (codes "    DIRECTION " ++ direction ++ codes " ;\n")) ++ (codes "    USE " ++ use_of ++ codes " ;\n")) ++ port) ++ (codes "  END " ++ name ++ codes "\n")
    ≡ (codes "  PIN " ++ name) ++ 10 ∷ ((codes "    DIRECTION " ++ direction ++ codes " ;") ++ 10 ∷ ((codes "    USE " ++ use_of ++ codes " ;") ++ 10 ∷ (port ++ ((codes "  END " ++ name) ++ 10 ∷ []))))
pinned name direction use_of port =
    let directed = codes "    DIRECTION " ++ direction ++ codes " ;\n" in
    let used = codes "    USE " ++ use_of ++ codes " ;\n" in
    let ended = codes "  END " ++ name ++ codes "\n" in
    from_left (codes "  PIN " ++ name ++ codes "\n") directed used port ended
    ∙ (append_assoc (codes "  PIN " ++ name) (codes "\n") (directed ++ (used ++ (port ++ ended)))
    ∙ ap (λ (l : List ℕ). (codes "  PIN " ++ name) ++ 10 ∷ l)
    (cut_elsewhere (codes "    DIRECTION ") direction (codes " ;\n") (used ++ (port ++ ended)) (codes " ;") (10 ∷ (used ++ (port ++ ended))) refl
    ∙ ap (λ (l : List ℕ). (codes "    DIRECTION " ++ direction ++ codes " ;") ++ 10 ∷ l) (cut_elsewhere (codes "    USE ") use_of (codes " ;\n") (port ++ ended) (codes " ;") (10 ∷ (port ++ ended)) refl)))

pub pin_is : (name direction use_of layer : List ℕ) (area : LefBox) → ((((codes "  PIN " ++ name ++ codes "\n") ++ (codes "    DIRECTION " ++ direction ++ codes " ;\n")) ++ (codes "    USE " ++ use_of ++ codes " ;\n")) ++ text_of_lines (port_lines layer area)) ++ (codes "  END " ++ name ++ codes "\n")
    ≡ text_of_lines (pin_lines name direction use_of layer area)
pin_is name direction use_of layer area =
    pinned name direction use_of (text_of_lines (port_lines layer area))
    ∙ ap (λ (l : List ℕ). (codes "  PIN " ++ name) ++ 10 ∷ ((codes "    DIRECTION " ++ direction ++ codes " ;") ++ 10 ∷ ((codes "    USE " ++ use_of ++ codes " ;") ++ 10 ∷ l)))
    (sym (text_append (port_lines layer area) ((codes "  END " ++ name) ∷ [])))

-- boxes with the same corners are the same
pub same_box : (p q : LefBox) → p.x1 ≡ q.x1 → p.y1 ≡ q.y1 → p.x2 ≡ q.x2 → p.y2 ≡ q.y2 → p ≡ q
same_box p q left low right high =
    let a : LefBox = record p { x1 = q.x1 } in
    let b : LefBox = record a { y1 = q.y1 } in
    let c : LefBox = record b { x2 = q.x2 } in
    let one : p ≡ a = ap (λ (z : ℤ). let r : LefBox = record p { x1 = z } in r) left in
    let two : a ≡ b = ap (λ (z : ℤ). let r : LefBox = record a { y1 = z } in r) low in
    let three : b ≡ c = ap (λ (z : ℤ). let r : LefBox = record b { x2 = z } in r) right in
    let four : c ≡ q = ap (λ (z : ℤ). let r : LefBox = record c { y2 = z } in r) high in
    one ∙ (two ∙ (three ∙ four))

-- the pin of the same texts and the same box
pub same_pin : {b name name' direction direction' use_of use_of' layer layer' : List ℕ} (a : List ℕ) (area area' : LefBox) → b ≡ a ++ text_of_lines (pin_lines name direction use_of layer area') → name ≡ name' → direction ≡ direction' → use_of ≡ use_of'
    → layer ≡ layer' → area' ≡ area → b ≡ a ++ text_of_lines (pin_lines name' direction' use_of' layer' area)
same_pin {b} {name} {name'} {direction} {direction'} {use_of} {use_of'} {layer} {layer'} a area area' e p q r s t =
    e ∙ ap (λ (l : List ℕ). a ++ l)
    (ap (λ (n : List ℕ). text_of_lines (pin_lines n direction use_of layer area')) p
    ∙ (ap (λ (d : List ℕ). text_of_lines (pin_lines name' d use_of layer area')) q
    ∙ (ap (λ (u : List ℕ). text_of_lines (pin_lines name' direction' u layer area')) r
    ∙ (ap (λ (l : List ℕ). text_of_lines (pin_lines name' direction' use_of' l area')) s
    ∙ ap (λ (l : LefBox). text_of_lines (pin_lines name' direction' use_of' layer' l)) t))))

named : (name size : List ℕ) → ((HEAD.now ++ (codes "MACRO " ++ name ++ codes "\n  CLASS BLOCK ;\n")) ++ size) ++ codes "\n  SYMMETRY X Y ;\n"
    ≡ HEAD.now ++ ((codes "MACRO " ++ name) ++ 10 ∷ (codes "  CLASS BLOCK ;\n" ++ (size ++ 10 ∷ codes "  SYMMETRY X Y ;\n")))
named name size =
    let macro = codes "MACRO " ++ name ++ codes "\n  CLASS BLOCK ;\n" in
    spread HEAD.now macro size (codes "\n  SYMMETRY X Y ;\n") ∙ ap (λ (l : List ℕ). HEAD.now ++ l) (append_assoc (codes "MACRO " ++ name) (codes "\n  CLASS BLOCK ;\n") (size ++ codes "\n  SYMMETRY X Y ;\n"))

pub head_is : {name : List ℕ} (view : Abstract) → name ≡ view.name → ((HEAD.now ++ (codes "MACRO " ++ name ++ codes "\n  CLASS BLOCK ;\n")) ++ size_text view) ++ codes "\n  SYMMETRY X Y ;\n" ≡ text_of_lines (head_lines view)
head_is {name} view e =
    ap (λ (n : List ℕ). ((HEAD.now ++ (codes "MACRO " ++ n ++ codes "\n  CLASS BLOCK ;\n")) ++ size_text view) ++ codes "\n  SYMMETRY X Y ;\n") e ∙ named view.name (size_text view)

-- the obstructions of four metals
pub obstructions_are : (a b c d : List (List ℕ)) → ((((codes "  OBS\n" ++ text_of_lines a) ++ text_of_lines b) ++ text_of_lines c) ++ text_of_lines d) ++ codes "  END\n" ≡ text_of_lines (codes "  OBS" ∷ (a ++ b ++ c ++ d ++ codes "  END" ∷ []))
obstructions_are a b c d =
    ap (λ (l : List ℕ). codes "  OBS\n" ++ l)
    (ap (λ (l : List ℕ). ((l ++ text_of_lines c) ++ text_of_lines d) ++ codes "  END\n") (sym (text_append a b))
    ∙ (ap (λ (l : List ℕ). (l ++ text_of_lines d) ++ codes "  END\n") (sym (text_append (a ++ b) c))
    ∙ (ap (λ (l : List ℕ). l ++ codes "  END\n") (sym (text_append (a ++ b ++ c) d))
    ∙ sym (text_append (a ++ b ++ c ++ d) (codes "  END" ∷ [])))))

-- a corner of the same numbers
pub same_corner : {b : List ℕ} (a : List ℕ) (x y x' y' : ℤ) → b ≡ a ++ corner_text x' y' → x' ≡ x → y' ≡ y → b ≡ a ++ corner_text x y
same_corner a x y x' y' e p q = e ∙ (ap (λ (z : ℤ). a ++ corner_text z y') p ∙ ap (λ (z : ℤ). a ++ corner_text x z) q)

-- a length of the same number
pub same_length : {b : List ℕ} (a : List ℕ) (x x' : ℤ) → b ≡ a ++ microns x' → x' ≡ x → b ≡ a ++ microns x
same_length a x x' e p = e ∙ ap (λ (z : ℤ). a ++ microns z) p

-- the same box blocked on the same layer
pub same_blocked : {b layer layer' : List ℕ} (a : List ℕ) (area area' : LefBox) → b ≡ a ++ text_of_lines (blocked_lines layer area') → layer ≡ layer' → area' ≡ area → b ≡ a ++ text_of_lines (blocked_lines layer' area)
same_blocked {b} {layer} {layer'} a area area' e p q =
    e ∙ ap (λ (l : List ℕ). a ++ l) (ap (λ (l : List ℕ). text_of_lines (blocked_lines l area')) p ∙ ap (λ (r : LefBox). text_of_lines (blocked_lines layer' r)) q)

-- a supply at the same place
pub same_supply : {b : List ℕ} (a : List ℕ) (view : Abstract) (name use_of : List ℕ) (x x' : ℤ) → b ≡ a ++ text_of_lines (supply_lines view name use_of x') → x' ≡ x → b ≡ a ++ text_of_lines (supply_lines view name use_of x)
same_supply a view name use_of x x' e p = e ∙ ap (λ (z : ℤ). a ++ text_of_lines (supply_lines view name use_of z)) p

-- head, signals, supplies, obstructions and end make the text
pub lef_is : {X : Type 0} (f : X → List (List ℕ)) (xs : List X) (head supplies obstructions end : List (List ℕ)) → (((text_of_lines head ++ flat_map (λ x. text_of_lines (f x)) xs) ++ text_of_lines supplies) ++ text_of_lines obstructions) ++ text_of_lines end
    ≡ text_of_lines (head ++ flat_map f xs ++ supplies ++ obstructions ++ end)
lef_is f xs head supplies obstructions end =
    let signals = flat_map f xs in
    ap (λ (l : List ℕ). (((text_of_lines head ++ l) ++ text_of_lines supplies) ++ text_of_lines obstructions) ++ text_of_lines end) (sym (text_flat_map f xs))
    ∙ (ap (λ (l : List ℕ). ((l ++ text_of_lines supplies) ++ text_of_lines obstructions) ++ text_of_lines end) (sym (text_append head signals))
    ∙ (ap (λ (l : List ℕ). (l ++ text_of_lines obstructions) ++ text_of_lines end) (sym (text_append (head ++ signals) supplies))
    ∙ (ap (λ (l : List ℕ). l ++ text_of_lines end) (sym (text_append (head ++ signals ++ supplies) obstructions))
    ∙ sym (text_append (head ++ signals ++ supplies ++ obstructions) end))))
