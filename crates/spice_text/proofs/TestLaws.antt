-- The tests are true of exactly what can be written.
use Rattle.std.proofs.Common.{◌≡◌, ◌≢◌, ◌<◌, ℕ, List, [], ◌∷◌, ◌++◌, length, map, Bool, true, false, not, nat_eq, nat_le, ◌&&◌, ◌||◌, ◌==◌, refl, sym, ap, subst, ◌∙◌, arith}
use Rattle.std.specs.List.{AllByRecursion, list_all}
use Rattle.std.specs.Str.{bytes_eq}
use Rattle.std.specs.Bool.{Decides}
use Rattle.std.proofs.lemmas.Bool.{leb-true, le-leb, or_parts, not-true}
use Rattle.std.proofs.lemmas.Bool.Decides.{Decides-and, Decides-or, Decides-not, Decides-like, Decides-eqb}
use Rattle.or_geom.proofs.NameLaws.{same_name}
use Rattle.netlist.specs.declared.deck.Instance.{Instance}
use Rattle.netlist.specs.declared.deck.Subckt.{Subckt}
use Rattle.spice_text.specs.Words.{lower, is_nonempty, is_among}
use Rattle.spice_text.specs.Subcircuits.{has_repeat}
use Rattle.spice_text.specs.Writable.{IsNameByte, IsName, BeginsWithX, Differ, IsWritableInstance, instance_name, IsWritableSubckt, subckt_name, AreWritable}
use Rattle.spice_text.specs.WritableTests as test
use Rattle.spice_text.proofs.WrittenNames.{differ_once, once_parts}

-- each element passes where the test is true of all
pub all_decided : {X : Type 0} (p : X → Bool) (P : X → Type 0) → ((x : X) → Decides (p x) (P x)) → (xs : List X) → Decides (list_all p xs) (AllByRecursion P xs)
all_decided p P each [] = (λ e. tt, λ h. refl)
all_decided p P each (x ∷ xs) = Decides-like (p x && list_all p xs) (λ h. (h.0, h.1)) (λ h. (h.0, h.1)) (Decides-and (p x) (list_all p xs) (each x) (all_decided p P each xs))

pub byte_decided : (b : ℕ) → Decides (test.is_name_byte b) (IsNameByte b)
byte_decided b =
    Decides-like (test.is_name_byte b) (λ h. record { above = h.0; below = h.1.0; other = h.1.1 }) (λ h. (h.above, (h.below, h.other)))
    (Decides-and (nat_le 33 b) (nat_le b 126 && not (b == 61)) (leb-true 33 b, le-leb 33 b)
    (Decides-and (nat_le b 126) (not (b == 61)) (leb-true b 126, le-leb b 126) (Decides-not (b == 61) (Decides-eqb b 61))))

some_decided : (name : List ℕ) → Decides (is_nonempty name) (0 < length name)
some_decided [] = (λ e. absurd cc, λ h. absurd (omega arith))
some_decided (b ∷ name) = (λ e. omega arith, λ h. refl)

pub name_decided : (name : List ℕ) → Decides (test.is_name name) (IsName name)
name_decided name =
    Decides-like (test.is_name name) (λ h. record { some = h.0; bytes = h.1 }) (λ h. (h.some, h.bytes))
    (Decides-and (is_nonempty name) (list_all test.is_name_byte name) (some_decided name) (all_decided test.is_name_byte IsNameByte byte_decided name))

begins_decided : (name : List ℕ) → Decides (test.begins_with_x name) (BeginsWithX name)
begins_decided [] = (λ e. absurd cc, λ h. absurd h)
begins_decided (b ∷ name) = Decides-or (b == 120) (b == 88) (Decides-eqb b 120) (Decides-eqb b 88)

instance_decided : (i : Instance) → Decides (test.is_instance i) (IsWritableInstance i)
instance_decided i =
    Decides-like (test.is_instance i) (λ h. record { name = h.0; begins = h.1.0; nodes = h.1.1.0; refers = h.1.1.1 }) (λ h. (h.name, (h.begins, (h.nodes, h.refers))))
    (Decides-and (test.is_name i.name) _ (name_decided i.name)
    (Decides-and (test.begins_with_x i.name) _ (begins_decided i.name)
    (Decides-and (list_all test.is_name i.nodes) (test.is_name i.of) (all_decided test.is_name IsName name_decided i.nodes) (name_decided i.of))))

empty_decided : (lines : List (List ℕ)) → Decides (test.is_empty lines) (lines ≡ [])
empty_decided [] = (λ e. refl, λ h. refl)
empty_decided (line ∷ lines) = (λ e. absurd cc, λ h. absurd cc)

-- names of which none stands there twice differ
before_one : (y x : List ℕ) (seen : List (List ℕ)) → is_among y (seen ++ x ∷ []) ≡ false → (is_among y seen ≡ false) × (x ≢ y)
before_one y x [] is = (
  refl,
  λ e.
      let same : bytes_eq y x ≡ true = subst (λ (z : List ℕ). bytes_eq y z ≡ true) (sym e) (same_name y) in
      let off = or_parts (bytes_eq y x) false is in
      let both : true ≡ false = sym same ∙ off.0 in
      absurd cc,
)
before_one y x (s ∷ seen) is =
    let parts = or_parts (bytes_eq y s) (is_among y (seen ++ x ∷ [])) is in
    let h = before_one y x seen parts.1 in
    ((λ i. parts.0 i || h.0 i), h.1)

all_before_one : (x : List ℕ) (seen names : List (List ℕ)) → AllByRecursion (λ y. is_among y (seen ++ x ∷ []) ≡ false) names → AllByRecursion (λ y. is_among y seen ≡ false) names × AllByRecursion (λ y. x ≢ y) names
all_before_one x seen [] h = (tt, tt)
all_before_one x seen (y ∷ names) h =
    let one = before_one y x seen h.0 in
    let more = all_before_one x seen names h.1 in
    ((one.0, more.0), (one.1, more.1))

pub once_differ : (names seen : List (List ℕ)) → has_repeat seen names ≡ false → AllByRecursion (λ y. is_among y seen ≡ false) names × Differ names
once_differ [] seen is = (tt, tt)
once_differ (x ∷ names) seen is =
    let parts = once_parts x seen names is in
    let more = once_differ names (seen ++ x ∷ []) parts.1 in
    let one = all_before_one x seen names more.0 in
    ((parts.0, one.0), (one.1, more.1))

pub differ_decided : (names : List (List ℕ)) → Decides (not (has_repeat [] names)) (Differ names)
differ_decided names = (λ e. (once_differ names [] (not-true (has_repeat [] names) e)).1, λ h. ap not (differ_once names h))

only_names_decided : (s : Subckt) → Decides (test.has_only_names s) ((s.raw ≡ []) × (IsName s.name × (AllByRecursion IsName s.ports × AllByRecursion IsWritableInstance s.instances)))
only_names_decided s =
    Decides-and (test.is_empty s.raw) _ (empty_decided s.raw)
    (Decides-and (test.is_name s.name) _ (name_decided s.name)
    (Decides-and (list_all test.is_name s.ports) (list_all test.is_instance s.instances) (all_decided test.is_name IsName name_decided s.ports) (all_decided test.is_instance IsWritableInstance instance_decided s.instances)))

writable_decided : (s : Subckt) → Decides (test.is_writable s) (IsWritableSubckt s)
writable_decided s =
    Decides-like (test.is_writable s) (λ h. record { name = h.0.1.0; ports = h.0.1.1.0; ports_differ = h.1.0; instances = h.0.1.1.1; instances_differ = h.1.1; no_raw = h.0.0 })
    (λ h. ((h.no_raw, (h.name, (h.ports, h.instances))), (h.ports_differ, h.instances_differ)))
    (Decides-and (test.has_only_names s) _ (only_names_decided s) (Decides-and _ _ (differ_decided (map lower s.ports)) (differ_decided (map instance_name s.instances))))

pub writables_decided : (subckts : List Subckt) → Decides (test.are_writable subckts) (AreWritable subckts)
writables_decided subckts =
    Decides-like (test.are_writable subckts) (λ h. record { each = h.0; differ = h.1 }) (λ h. (h.each, h.differ))
    (Decides-and (list_all test.is_writable subckts) _ (all_decided test.is_writable IsWritableSubckt writable_decided subckts) (differ_decided (map subckt_name subckts)))

-- the test's two parts, one after the other
pub refused_by : (subckts : List Subckt) → list_all test.is_writable subckts ≡ false → Decides false (AreWritable subckts)
refused_by subckts off = subst (λ v. Decides v (AreWritable subckts)) (ap (λ v. v && not (has_repeat [] (map subckt_name subckts))) off) (writables_decided subckts)

pub passed_by : (subckts : List Subckt) (repeats : Bool) → list_all test.is_writable subckts ≡ true → repeats ≡ has_repeat [] (map subckt_name subckts) → Decides (not repeats) (AreWritable subckts)
passed_by subckts repeats each is = subst (λ v. Decides v (AreWritable subckts)) (λ i. each i && not (sym is i)) (writables_decided subckts)

pub some_name : (name : List ℕ) (all : Bool) → false ≡ nat_eq (length name) 0 → all ≡ list_all test.is_name_byte name → all ≡ test.is_name name
some_name [] all is e = absurd cc
some_name (b ∷ name) all is e = e
