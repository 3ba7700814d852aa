-- DeckSoFar the lines of a written deck.
use Rattle.std.proofs.Common.{◌≡◌, inl, inr, ℕ, ◌<◌, List, [], ◌∷◌, ◌++◌, false, cond, ◌==◌, map, Some, None, Ok, Err, refl, sym, ap, subst, ◌∙◌, arith}
use Rattle.std.specs.Prelude.{flat_map}
use Rattle.std.specs.List.{AllByRecursion}
use Rattle.std.specs.Char.{to_ascii_lowercase}
use Rattle.std.proofs.lemmas.List.{append_assoc, append-nil, map-append}
use Rattle.std.proofs.lemmas.Bool.{ne_eqb}
use Rattle.or_geom.proofs.NameLaws.{same_name}
use Rattle.netlist.specs.declared.deck.Subckt.{Subckt}
use Rattle.netlist.specs.declared.deck.Instance.{Instance}
use Rattle.spice_text.specs.declared.fault.SpiceFault.TheVariants as fault
use Rattle.spice_text.specs.Lines.{TextLine}
use Rattle.spice_text.specs.Words.{words_of, lower, before_assignment, is_among}
use Rattle.spice_text.specs.Statements.{LineMeaning, meaning_of, statement_of}
use Rattle.spice_text.specs.Statements as says
use Rattle.spice_text.specs.Subcircuits.{BegunSubckt, DeckSoFar, name_of, own_name, has_repeat, opened, with_instance, map_ok, with_current, closed_by}
use Rattle.spice_text.specs.Steps.{step, stops}
use Rattle.spice_text.specs.Deck.{finished, then_lines, deck_after}
use Rattle.spice_text.specs.WrittenText.{words_text, instance_text, begin_text, end_text, subckt_text, deck_text}
use Rattle.spice_text.specs.Writable.{IsName, BeginsWithX, IsWritableInstance, instance_name, IsWritableSubckt, subckt_name, lowered_instance, lowered_subckt}
use Rattle.spice_text.proofs.WrittenLines.{IsLine, IsPlain, line_at, Read, IsApart, tail_text, first_reads, line_apart}
use Rattle.spice_text.proofs.WrittenWords.{IsApartWord, all_of, words_back, lower_line, lower_name, lower_names, apart_word, plain_word, all_before, byte_blank}
use Rattle.spice_text.proofs.WrittenNames.{differ_once, once_parts}
use Rattle.spice_text.proofs.DeckLaws.{made, new_placed}

-- reading goes on from one state to another, with these bytes left
pub record Goes (size : ℕ) (r : DeckSoFar) (lines : List TextLine) (r2 : DeckSoFar) (more : List ℕ) : Type 0 where
  pub number : ℕ
  pub before : ℕ
  pub is : deck_after size r lines ≡ deck_after size r2 (Read number before more)

and_goes : (size : ℕ) (r r2 r3 : DeckSoFar) (lines : List TextLine) (more more2 : List ℕ) → Goes size r lines r2 more → ((n b : ℕ) → Goes size r2 (Read n b more) r3 more2) → Goes size r lines r3 more2
and_goes size r r2 r3 lines more more2 g f = let h = f g.number g.before in record { number = h.number; before = h.before; is = g.is ∙ h.is }

-- what a written line says
said : (c : ℕ) (t : List ℕ) (words : List (List ℕ)) → (c == 43) ≡ false → IsApartWord (lower (c ∷ t)) → AllByRecursion IsApartWord (map lower words)
    → statement_of ((c ∷ t) ++ tail_text 1 words) ≡ meaning_of (lower (c ∷ t) ∷ map lower words)
said c t words off w ws =
    ap (λ v. cond v says.Continuation (meaning_of (words_of (lower ((c ∷ t) ++ tail_text 1 words))))) off
    ∙ ap (λ (text : List ℕ). meaning_of (words_of text)) (lower_line (c ∷ t) words 1) ∙ ap meaning_of (words_back (map lower words) 1 (lower (c ∷ t)) w ws)

-- a line whose first word is this one
pub record IsFirst (c : ℕ) (t : List ℕ) : Type 0 where
  pub line : IsLine c t
  pub off : (c == 43) ≡ false
  pub word : IsApartWord (lower (c ∷ t))

plain_words : (words : List (List ℕ)) → AllByRecursion IsName words → AllByRecursion IsPlain words
plain_words words h = all_of IsName IsPlain plain_word words h

apart_words : (words : List (List ℕ)) → AllByRecursion IsName words → AllByRecursion IsApartWord (map lower words)
apart_words words h = all_of IsName IsApartWord apart_word (map lower words) (lower_names words h)

first_apart : (c : ℕ) (t : List ℕ) (words : List (List ℕ)) (more : List ℕ) → IsFirst c t → AllByRecursion IsName words → IsApart more → IsApart (words_text 0 ((c ∷ t) ∷ words) ++ more)
first_apart c t words more f h apart = line_apart c t words more f.line f.off (plain_words words h) apart

line_goes : (size n b : ℕ) (r r2 : DeckSoFar) (c : ℕ) (t : List ℕ) (words : List (List ℕ)) (more : List ℕ) (st : LineMeaning) → IsFirst c t → AllByRecursion IsName words → IsApart more
    → meaning_of (lower (c ∷ t) ∷ map lower words) ≡ st → stops r.current st ≡ false → ((text : List ℕ) → step r (line_at n b text) st ≡ Ok r2) → Goes size r (Read n b (words_text 0 ((c ∷ t) ∷ words) ++ more)) r2 more
line_goes size n b r r2 c t words more st f h apart means goes_on next =
    let rd = first_reads c t words more n b f.line (plain_words words h) apart in
    let this = line_at n b ((c ∷ t) ++ tail_text 1 words) in
    let rest = Read rd.number rd.before more in
    record {
      number = rd.number;
      before = rd.before;
      is = ap (deck_after size r) rd.is
          ∙ ap (λ s. cond (stops r.current s) (finished b r.done r.current) (then_lines (λ q. deck_after size q rest) (step r this s))) (said c t words f.off f.word (apart_words words h) ∙ means)
          ∙ ap (λ v. cond v (finished b r.done r.current) (then_lines (λ q. deck_after size q rest) (step r this st))) goes_on ∙ ap (then_lines (λ q. deck_after size q rest)) (next ((c ∷ t) ++ tail_text 1 words));
    }

abbrev pub between : List Subckt → DeckSoFar
between done = record { done = done; current = None }

abbrev pub within : List Subckt → BegunSubckt → DeckSoFar
within done o = record { done = done; current = Some o }

-- `.SUBCKT`
abbrev subckt_rest : List ℕ
subckt_rest = 83 ∷ 85 ∷ 66 ∷ 67 ∷ 75 ∷ 84 ∷ []

subckt_first : IsFirst 46 subckt_rest
subckt_first = record {
  line = record { star = refl; blank = refl; lf = (refl, (refl, (refl, (refl, (refl, (refl, (refl, tt))))))); cr = (refl, (refl, (refl, (refl, (refl, (refl, (refl, tt))))))) };
  off = refl;
  word = record { some = refl; none = (refl, (refl, (refl, (refl, (refl, (refl, (refl, tt))))))) };
}

begin_names : (s : Subckt) → IsWritableSubckt s → AllByRecursion IsName (s.name ∷ s.ports)
begin_names s w = (w.name, w.ports)

begin_apart : (s : Subckt) (more : List ℕ) → IsWritableSubckt s → IsApart more → IsApart (begin_text s ++ more)
begin_apart s more w apart = first_apart 46 subckt_rest (s.name ∷ s.ports) more subckt_first (begin_names s w) apart

begin_goes : (size n b : ℕ) (done : List Subckt) (s : Subckt) (more : List ℕ) → IsWritableSubckt s → is_among (lower s.name) (map name_of done) ≡ false → IsApart more
    → Goes size (between done) (Read n b (begin_text s ++ more)) (within done (opened n (lower s.name) (map lower s.ports))) more
begin_goes size n b done s more w new apart =
    let end = within done (opened n (lower s.name) (map lower s.ports)) in
    line_goes size n b (between done) end 46 subckt_rest (s.name ∷ s.ports) more (says.Begin (lower s.name ∷ map lower s.ports)) subckt_first (begin_names s w) apart
    (ap (λ (ws : List (List ℕ)). says.Begin ws) (all_before (lower s.name ∷ map lower s.ports) (lower_names (s.name ∷ s.ports) (begin_names s w)))) refl
    (λ text. ap (λ v. cond v (Err (fault.Duplicate n)) (cond (has_repeat [] (map lower s.ports)) (Err (fault.Duplicate n)) (Ok end))) new
    ∙ ap (λ v. cond v (Err (fault.Duplicate n)) (Ok end)) (differ_once (map lower s.ports) w.ports_differ))

-- `.ENDS`
abbrev ends_rest : List ℕ
ends_rest = 69 ∷ 78 ∷ 68 ∷ 83 ∷ []

ends_first : IsFirst 46 ends_rest
ends_first = record {
  line = record { star = refl; blank = refl; lf = (refl, (refl, (refl, (refl, (refl, tt))))); cr = (refl, (refl, (refl, (refl, (refl, tt))))) };
  off = refl;
  word = record { some = refl; none = (refl, (refl, (refl, (refl, (refl, tt))))) };
}

end_apart : (s : Subckt) (more : List ℕ) → IsWritableSubckt s → IsApart more → IsApart (end_text s ++ more)
end_apart s more w apart = first_apart 46 ends_rest (s.name ∷ []) more ends_first (w.name, tt) apart

end_goes : (size n b : ℕ) (done : List Subckt) (o : BegunSubckt) (s : Subckt) (more : List ℕ) → IsWritableSubckt s → o.subckt.name ≡ lower s.name → IsApart more
    → Goes size (within done o) (Read n b (end_text s ++ more)) (between (done ++ o.subckt ∷ [])) more
end_goes size n b done o s more w named apart =
    let end = between (done ++ o.subckt ∷ []) in
    line_goes size n b (within done o) end 46 ends_rest (s.name ∷ []) more (says.End (lower s.name ∷ [])) ends_first (w.name, tt) apart refl refl
    (λ text. ap (λ (name : List ℕ). cond (closed_by (lower s.name ∷ []) name) (Ok end) (Err (fault.Unclosed n))) named
    ∙ ap (λ v. cond v (Ok end) (Err (fault.Unclosed n))) (same_name (lower s.name)))

-- instances
x_lower : (c : ℕ) (t : List ℕ) → BeginsWithX (c ∷ t) → to_ascii_lowercase c ≡ 120
x_lower c t (inl e) = ap to_ascii_lowercase e
x_lower c t (inr e) = ap to_ascii_lowercase e

x_other : (c : ℕ) (t : List ℕ) (n : ℕ) → BeginsWithX (c ∷ t) → n < 88 → (c == n) ≡ false
x_other c t n (inl e) low = ne_eqb c n (λ f. absurd (omega arith))
x_other c t n (inr e) low = ne_eqb c n (λ f. absurd (omega arith))

name_first : (c : ℕ) (t : List ℕ) → IsName (c ∷ t) → BeginsWithX (c ∷ t) → IsFirst c t
name_first c t name x =
    let plain = plain_word (c ∷ t) name in
    record { line = record { star = x_other c t 42 x (omega arith); blank = byte_blank c name.bytes.0; lf = plain.lf; cr = plain.cr }; off = x_other c t 43 x (omega arith); word = apart_word (lower (c ∷ t)) (lower_name (c ∷ t) name) }

pub all_names : (nodes : List (List ℕ)) (last : List ℕ) → AllByRecursion IsName nodes → IsName last → AllByRecursion IsName (nodes ++ last ∷ [])
all_names [] last h g = (g, tt)
all_names (node ∷ nodes) last h g = (h.0, all_names nodes last h.1 g)

abbrev line_of_instance : List ℕ → List (List ℕ) → List ℕ → List ℕ
line_of_instance name nodes last = words_text 0 (name ∷ (nodes ++ last ∷ []))

one_apart : (name : List ℕ) (nodes : List (List ℕ)) (last more : List ℕ) → IsName name → BeginsWithX name → AllByRecursion IsName nodes → IsName last → IsApart more → IsApart (line_of_instance name nodes last ++ more)
one_apart [] nodes last more name x h g apart = absurd x
one_apart (c ∷ t) nodes last more name x h g apart = first_apart c t (nodes ++ last ∷ []) more (name_first c t name x) (all_names nodes last h g) apart

-- what a written instance says
instance_said : (c : ℕ) (t : List ℕ) (nodes : List (List ℕ)) (last : List ℕ) → BeginsWithX (c ∷ t) → AllByRecursion IsName ((c ∷ t) ∷ (nodes ++ last ∷ []))
    → meaning_of (lower (c ∷ t) ∷ map lower (nodes ++ last ∷ [])) ≡ says.Instance (lower (c ∷ t) ∷ (map lower nodes ++ lower last ∷ []))
instance_said c t nodes last x names =
    let words = map lower (nodes ++ last ∷ []) in
    let is = x_lower c t x in
    ap (λ k. meaning_of ((k ∷ lower t) ∷ words)) is
    ∙ ap (λ k. says.Instance (before_assignment ((k ∷ lower t) ∷ words))) (sym is)
    ∙ ap (λ (ws : List (List ℕ)). says.Instance ws) (all_before (lower (c ∷ t) ∷ words) (lower_names ((c ∷ t) ∷ (nodes ++ last ∷ [])) names))
    ∙ ap (λ (ws : List (List ℕ)). says.Instance (lower (c ∷ t) ∷ ws)) (map-append lower nodes (last ∷ []))

one_goes : (size n b : ℕ) (done : List Subckt) (o : BegunSubckt) (i : Instance) (more : List ℕ) → IsWritableInstance i
    → is_among (lower i.name) (map own_name o.subckt.instances) ≡ false → IsApart more
    → Goes size (within done o) (Read n b (instance_text i ++ more)) (within done (with_instance o (lowered_instance i))) more
one_goes size n b done o i more w new apart = at i.name w.name w.begins new where
  at : (name : List ℕ) → IsName name → BeginsWithX name → is_among (lower name) (map own_name o.subckt.instances) ≡ false
      → Goes size (within done o) (Read n b (line_of_instance name i.nodes i.of ++ more)) (within done (with_instance o (made (lower name) (map lower i.nodes) (lower i.of)))) more
  at [] named x new = absurd x
  at (c ∷ t) named x new =
      let names = all_names i.nodes i.of w.nodes w.refers in
      line_goes size n b (within done o) (within done (with_instance o (made (lower (c ∷ t)) (map lower i.nodes) (lower i.of)))) c t (i.nodes ++ i.of ∷ []) more
      (says.Instance (lower (c ∷ t) ∷ (map lower i.nodes ++ lower i.of ∷ []))) (name_first c t named x) names apart
      (instance_said c t i.nodes i.of x (named, names)) refl
      (λ text. ap (map_ok (with_current (within done o))) (new_placed o n (lower (c ∷ t)) (map lower i.nodes) (lower i.of) new))

-- instances one after the other
abbrev with_instances : BegunSubckt → List Instance → BegunSubckt
with_instances o [] = o
with_instances o (i ∷ instances) = with_instances (with_instance o (lowered_instance i)) instances

instances_apart : (instances : List Instance) (more : List ℕ) → AllByRecursion IsWritableInstance instances → IsApart more → IsApart (flat_map instance_text instances ++ more)
instances_apart [] more h apart = apart
instances_apart (i ∷ instances) more h apart =
    subst IsApart (sym (append_assoc (instance_text i) (flat_map instance_text instances) more))
    (one_apart i.name i.nodes i.of (flat_map instance_text instances ++ more) h.0.name h.0.begins h.0.nodes h.0.refers (instances_apart instances more h.1 apart))

-- one instance more has its name
name_more : (o : BegunSubckt) (i : Instance) → map own_name (with_instance o (lowered_instance i)).subckt.instances ≡ map own_name o.subckt.instances ++ lower i.name ∷ []
name_more o i = map-append own_name o.subckt.instances (lowered_instance i ∷ [])

instances_go : (instances : List Instance) (size n b : ℕ) (done : List Subckt) (o : BegunSubckt) (more : List ℕ)
    → AllByRecursion IsWritableInstance instances → has_repeat (map own_name o.subckt.instances) (map instance_name instances) ≡ false → IsApart more
    → Goes size (within done o) (Read n b (flat_map instance_text instances ++ more)) (within done (with_instances o instances)) more
instances_go [] size n b done o more h once apart = record { number = n; before = b; is = refl }
instances_go (i ∷ instances) size n b done o more h once apart =
    let parts = once_parts (lower i.name) (map own_name o.subckt.instances) (map instance_name instances) once in
    let rest = flat_map instance_text instances ++ more in
    let o2 = with_instance o (lowered_instance i) in
    let later = ap (λ (seen : List (List ℕ)). has_repeat seen (map instance_name instances)) (name_more o i) ∙ parts.1 in
    subst (λ (bytes : List ℕ). Goes size (within done o) (Read n b bytes) (within done (with_instances o2 instances)) more)
    (sym (append_assoc (instance_text i) (flat_map instance_text instances) more))
    (and_goes size (within done o) (within done o2) (within done (with_instances o2 instances)) (Read n b (instance_text i ++ rest)) rest more
    (one_goes size n b done o i rest h.0 parts.0 (instances_apart instances more h.1 apart))
    (λ n b. instances_go instances size n b done o2 more h.1 later apart))

abbrev given : List ℕ → List (List ℕ) → List Instance → Subckt
given name ports instances = record { name = name; ports = ports; instances = instances; raw = [] }

all_instances : (instances : List Instance) (line : ℕ) (name : List ℕ) (ports : List (List ℕ)) (before : List Instance)
    → (with_instances (record { line = line; subckt = given name ports before }) instances).subckt ≡ given name ports (before ++ map lowered_instance instances)
all_instances [] line name ports before = ap (given name ports) (sym (append-nil before))
all_instances (i ∷ instances) line name ports before =
    all_instances instances line name ports (before ++ lowered_instance i ∷ [])
    ∙ ap (given name ports) (append_assoc before (lowered_instance i ∷ []) (map lowered_instance instances))

-- a subcircuit
subckt_split : (s : Subckt) (more : List ℕ) → subckt_text s ++ more ≡ begin_text s ++ (flat_map instance_text s.instances ++ (end_text s ++ more))
subckt_split s more =
    append_assoc (begin_text s) (flat_map instance_text s.instances ++ end_text s) more ∙ ap (λ (l : List ℕ). begin_text s ++ l) (append_assoc (flat_map instance_text s.instances) (end_text s) more)

subckt_apart : (s : Subckt) (more : List ℕ) → IsWritableSubckt s → IsApart more → IsApart (subckt_text s ++ more)
subckt_apart s more w apart = subst IsApart (sym (subckt_split s more)) (begin_apart s _ w (instances_apart s.instances _ w.instances (end_apart s more w apart)))

subckt_goes : (size n b : ℕ) (done : List Subckt) (s : Subckt) (more : List ℕ) → IsWritableSubckt s → is_among (lower s.name) (map name_of done) ≡ false → IsApart more
    → Goes size (between done) (Read n b (subckt_text s ++ more)) (between (done ++ lowered_subckt s ∷ [])) more
subckt_goes size n b done s more w new apart =
    let closing = end_text s ++ more in
    let inner = flat_map instance_text s.instances ++ closing in
    let o = opened n (lower s.name) (map lower s.ports) in
    let filled = with_instances o s.instances in
    let built : filled.subckt ≡ given (lower s.name) (map lower s.ports) (map lowered_instance s.instances) = all_instances s.instances n (lower s.name) (map lower s.ports) [] in
    let named : filled.subckt.name ≡ lower s.name = ap (λ (x : Subckt). x.name) built in
    let whole : filled.subckt ≡ lowered_subckt s =
    built ∙ (λ i. record { name = lower s.name; ports = map lower s.ports; instances = map lowered_instance s.instances; raw = sym w.no_raw i }) in
    let ends = end_apart s more w apart in
    subst (λ (x : Subckt). Goes size (between done) (Read n b (subckt_text s ++ more)) (between (done ++ x ∷ [])) more) whole
    (subst (λ (bytes : List ℕ). Goes size (between done) (Read n b bytes) (between (done ++ filled.subckt ∷ [])) more) (sym (subckt_split s more))
    (and_goes size (between done) (within done o) (between (done ++ filled.subckt ∷ [])) (Read n b (begin_text s ++ inner)) inner more
    (begin_goes size n b done s inner w new (instances_apart s.instances closing w.instances ends))
    (λ n b. and_goes size (within done o) (within done filled) (between (done ++ filled.subckt ∷ [])) (Read n b inner) closing more
    (instances_go s.instances size n b done o closing w.instances (differ_once (map instance_name s.instances) w.instances_differ) ends)
    (λ n b. end_goes size n b done filled s more w named apart))))

pub deck_apart : (subckts : List Subckt) → AllByRecursion IsWritableSubckt subckts → IsApart (deck_text subckts)
deck_apart [] h = λ line n b. refl
deck_apart (s ∷ subckts) h = subckt_apart s (deck_text subckts) h.0 (deck_apart subckts h.1)

-- a deck
pub deck_goes : (subckts : List Subckt) (size n b : ℕ) (done : List Subckt) → AllByRecursion IsWritableSubckt subckts → has_repeat (map name_of done) (map subckt_name subckts) ≡ false
    → deck_after size (between done) (Read n b (deck_text subckts)) ≡ Ok (record { subckts = done ++ map lowered_subckt subckts; used = size })
deck_goes [] size n b done h once = ap (λ (l : List Subckt). Ok (record { subckts = l; used = size })) (sym (append-nil done))
deck_goes (s ∷ subckts) size n b done h once =
    let parts = once_parts (lower s.name) (map name_of done) (map subckt_name subckts) once in
    let g = subckt_goes size n b done s (deck_text subckts) h.0 parts.0 (deck_apart subckts h.1) in
    let later = ap (λ (seen : List (List ℕ)). has_repeat seen (map subckt_name subckts)) (map-append name_of done (lowered_subckt s ∷ [])) ∙ parts.1 in
    g.is ∙ deck_goes subckts size g.number g.before (done ++ lowered_subckt s ∷ []) h.1 later
    ∙ ap (λ (l : List Subckt). Ok (record { subckts = l; used = size })) (append_assoc done (lowered_subckt s ∷ []) (map lowered_subckt subckts))
