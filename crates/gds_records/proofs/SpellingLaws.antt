-- Bytes and their records: what a part takes off the records, it takes off the bytes.
use Rattle.std.proofs.Common.{◌≡◌, ◌⊎◌, inl, inr, ℕ, zero, suc, ◌+◌, ◌-◌, ◌*◌, ◌/◌, ◌%◌, ◌<◌, ◌≤◌, List, [], ◌∷◌, ◌++◌, length, take, drop, Bool, true, false, cond, ◌&&◌, leb, eqb, Option, Some, None, refl, sym, ap, subst, ◌∙◌, append_assoc, arith}
use Rattle.std.proofs.lemmas.List.{length-take, take-append-drop, length-append, append-nil}
use Rattle.std.proofs.lemmas.Bool.{eqb-true, eq-eqb, le-leb, and_parts, lt-leb}
use Rattle.std.proofs.lemmas.Option.{same_Some}
use Rattle.std.proofs.Math.Seq.{drop-append_seam, take-append_seam}
use Rattle.std.specs.List.{list_all}
use borrow.Author.Tests.{leb-true, leb-false}
use Rattle.gds_records.specs.declared.form.Form.{Form}
use Rattle.gds_records.specs.declared.form.Form.TheVariants.{Sized, Points, Text, Even, Unknown}
use Rattle.gds_records.specs.Record.{StreamRecord, record_of, form_in, form_of, record_table, has_form, is_formed, AreFormed}
use Rattle.gds_records.specs.Bytes.{record_bytes, records_bytes, AreBytes, AreZero, code_in, length_in, cut, broken_record, records_of}
use Rattle.gds_records.proofs.BytesLaws.{shorter_cut, some_cut, none_left, one_more, chosen}

abbrev record_of_bytes : StreamRecord → List ℕ
record_of_bytes e = cond e.whole (record_bytes e) e.content

records_of_bytes : List StreamRecord → List ℕ
records_of_bytes [] = []
records_of_bytes (e ∷ es) = record_of_bytes e ++ records_of_bytes es

two_back : (n a b : ℕ) → n ≡ 256 * a + b → b < 256 → (n / 256 ≡ a) × (n % 256 ≡ b)
two_back n a b is small = (omega arith, omega arith)

abbrev Rebuilds : List ℕ → StreamRecord × List ℕ → Type 0
Rebuilds bytes p = record_of_bytes p.0 ++ p.1 ≡ bytes

whole_rebuilds : (a b c d : ℕ) (rest : List ℕ) → b < 256 → d < 256 → 4 ≤ 256 * a + b → 256 * a + b ≤ length rest + 4
    → Rebuilds (a ∷ b ∷ c ∷ d ∷ rest)
    (record_of true (256 * c + d) (take (256 * a + b - 4) rest), drop (256 * a + b - 4) rest)
whole_rebuilds a b c d rest small tiny low high =
    let size : length (take (256 * a + b - 4) rest) + 4 ≡ 256 * a + b =
    omega (arith, length-take (256 * a + b - 4) rest) in
    let h = two_back _ a b size small in
    let k = two_back (256 * c + d) c d refl tiny in
    let all = take-append-drop (256 * a + b - 4) rest in
    λ i. h.0 i ∷ h.1 i ∷ k.0 i ∷ k.1 i ∷ all i

rebuild : (bytes : List ℕ) (p : StreamRecord × List ℕ) → AreBytes bytes → cut bytes ≡ Some p → Rebuilds bytes p
unfolding cut
rebuild [] p are is = absurd cc
rebuild (a ∷ []) p are is = subst (Rebuilds (a ∷ [])) (same_Some _ p is) refl
rebuild (a ∷ b ∷ []) p are is = subst (Rebuilds (a ∷ b ∷ [])) (same_Some _ p is) refl
rebuild (a ∷ b ∷ c ∷ []) p are is = subst (Rebuilds (a ∷ b ∷ c ∷ [])) (same_Some _ p is) refl
rebuild (a ∷ b ∷ c ∷ d ∷ rest) p are is =
    chosen (Rebuilds (a ∷ b ∷ c ∷ d ∷ rest)) _ _ p (leb 4 (256 * a + b)) (eqb (b % 2) 0)
    (leb (256 * a + b) (length rest + 4)) is
    (λ low high. whole_rebuilds a b c d rest are.1.0 are.1.1.1.0 (leb-true _ _ low) (leb-true _ _ high))
    (append-nil (a ∷ b ∷ c ∷ d ∷ rest))

bytes_after : (xs ys : List ℕ) → AreBytes (xs ++ ys) → AreBytes ys
bytes_after [] ys are = are
bytes_after (x ∷ xs) ys are = bytes_after xs ys are.1

whole_at : (n : ℕ) (bytes : List ℕ) (c : Option (StreamRecord × List ℕ)) → cut bytes ≡ c → AreBytes bytes
    → length bytes ≤ suc n
    → ((rest : List ℕ) → AreBytes rest → length rest ≤ n → records_of_bytes (records_of rest) ≡ rest)
    → records_of_bytes (records_of bytes) ≡ bytes
unfolding records_of_bytes
whole_at n [] None is are le f = rw (none_left [] is) refl
whole_at n (b ∷ bytes) None is are le f = absurd (some_cut b bytes is)
whole_at n bytes (Some p) is are le f =
    let back : Rebuilds bytes p = rebuild bytes p are is in
    let less = shorter_cut bytes p.0 p.1 is in
    let rest : records_of_bytes (records_of p.1) ≡ p.1 =
    f p.1 (bytes_after (record_of_bytes p.0) p.1 (subst AreBytes (sym back) are)) (omega (arith, less)) in
    ap records_of_bytes (one_more bytes p.0 p.1 is) ∙ ap (λ l. record_of_bytes p.0 ++ l) rest ∙ back

whole_in : (n : ℕ) (bytes : List ℕ) → AreBytes bytes → length bytes ≤ n → records_of_bytes (records_of bytes) ≡ bytes
unfolding records_of_bytes records_of
whole_in zero [] are le = refl
whole_in zero (b ∷ bytes) are le = absurd (omega arith)
whole_in (suc n) bytes are le = whole_at n bytes (cut bytes) refl are le (λ rest. whole_in n rest)

-- the bytes are those of their records
whole : (bytes : List ℕ) → AreBytes bytes → records_of_bytes (records_of bytes) ≡ bytes
whole bytes are = whole_in (length bytes) bytes are (omega arith)

records_of_bytes-append : (xs ys : List StreamRecord)
    → records_of_bytes (xs ++ ys) ≡ records_of_bytes xs ++ records_of_bytes ys
unfolding records_of_bytes
records_of_bytes-append [] ys = refl
records_of_bytes-append (x ∷ xs) ys = ap (λ l. record_of_bytes x ++ l) (records_of_bytes-append xs ys)
    ∙ sym (append_assoc (record_of_bytes x) (records_of_bytes xs) (records_of_bytes ys))

formed_whole_at : (w : Bool) (code : ℕ) (content : List ℕ) → is_formed (record_of w code content) ≡ true → w ≡ true
unfolding is_formed
formed_whole_at true code content is = refl
formed_whole_at false code content is = absurd cc

pub formed_whole : (e : StreamRecord) → is_formed e ≡ true → e.whole ≡ true
formed_whole e is = formed_whole_at e.whole e.code e.content is

formed_bytes : (es : List StreamRecord) → AreFormed es → records_of_bytes es ≡ records_bytes es
unfolding records_of_bytes records_bytes
formed_bytes [] are = refl
formed_bytes (e ∷ es) are =
    ap (λ w. cond w (record_bytes e) e.content ++ records_of_bytes es) (formed_whole e are.0)
    ∙ ap (λ l. record_bytes e ++ l) (formed_bytes es are.1)

-- what is taken off the records is taken off the bytes
pub taken_bytes : (bytes rest : List ℕ) (front : List StreamRecord) → AreBytes bytes → AreBytes rest → AreFormed front
    → records_of bytes ≡ front ++ records_of rest
    → bytes ≡ records_bytes front ++ rest
taken_bytes bytes rest front are some formed is =
    sym (whole bytes are) ∙ ap records_of_bytes is ∙ records_of_bytes-append front (records_of rest)
    ∙ ap (λ l. l ++ records_of_bytes (records_of rest)) (formed_bytes front formed)
    ∙ ap (λ l. records_bytes front ++ l) (whole rest some)

-- a form of an even number of bytes
abbrev is_even_form : Form → Bool
is_even_form (Sized n) = eqb (n % 2) 0
is_even_form Points = true
is_even_form Text = true
is_even_form Even = true
is_even_form Unknown = true

even_has : (f : Form) (content : List ℕ) → is_even_form f ≡ true → has_form f content ≡ true → length content % 2 ≡ 0
even_has (Sized n) content even is =
    let size : length content ≡ n = eqb-true (length content) n is in
    let half : n % 2 ≡ 0 = eqb-true (n % 2) 0 even in
    ap (λ m. m % 2) size ∙ half
even_has Points content even is =
    let both = and_parts (leb 8 (length content)) (eqb (length content % 8) 0) is in
    let h : length content % 8 ≡ 0 = eqb-true (length content % 8) 0 both.1 in
    omega (arith, h)
even_has Text content even is = eqb-true (length content % 2) 0 (and_parts _ _ is).0
even_has Even content even is = eqb-true (length content % 2) 0 is
even_has Unknown content even is = absurd cc

even_choice : (b : Bool) (f g : Form) → is_even_form f ≡ true → is_even_form g ≡ true → is_even_form (cond b f g) ≡ true
even_choice true f g h k = h
even_choice false f g h k = k

even_rows : (code : ℕ) (rows : List (ℕ × Form)) → list_all (λ (row : ℕ × Form). is_even_form row.1) rows ≡ true
    → is_even_form (form_in code rows) ≡ true
even_rows code [] all = refl
even_rows code (row ∷ rows) all =
    let both = and_parts (is_even_form row.1) (list_all (λ (row : ℕ × Form). is_even_form row.1) rows) all in
    even_choice (eqb row.0 code) row.1 (form_in code rows) both.0 (even_rows code rows both.1)

pub formed_even : (e : StreamRecord) → is_formed e ≡ true → length e.content % 2 ≡ 0
unfolding is_formed
formed_even e is = even_has (form_of e.code) e.content (even_rows e.code record_table refl) (and_parts _ _ is).1

-- a whole record is cut off
cut_whole : (code : ℕ) (content rest : List ℕ) → length content % 2 ≡ 0
    → cut (record_bytes (record_of true code content) ++ rest) ≡ Some (record_of true code content, rest)
unfolding cut
cut_whole code content rest even =
    let n : 256 * ((length content + 4) / 256) + (length content + 4) % 256 ≡ length content + 4 = omega arith in
    let m : 256 * (code / 256) + code % 256 ≡ code = omega arith in
    let low : leb 4 (length content + 4) ≡ true = le-leb _ _ (omega arith) in
    let half : eqb ((length content + 4) % 256 % 2) 0 ≡ true = eq-eqb _ _ (omega (arith, even)) in
    let high : leb (length content + 4) (length (content ++ rest) + 4) ≡ true =
    le-leb _ _ (omega (arith, length-append content rest)) in
    let size : length content + 4 - 4 ≡ length content = omega arith in
    rw (n, m, low, half, high, size, take-append_seam content rest, drop-append_seam content rest) refl

formed_cut : (e : StreamRecord) (rest : List ℕ) → is_formed e ≡ true → cut (record_bytes e ++ rest) ≡ Some (e, rest)
formed_cut e rest is =
    let w : e.whole ≡ true = formed_whole e is in
    subst (λ (v : Bool). cut (record_bytes e ++ rest) ≡ Some (record_of v e.code e.content, rest)) (sym w)
    (cut_whole e.code e.content rest (formed_even e is))

-- records are cut off one after the other
pub spelled_records : (es : List StreamRecord) (rest : List ℕ) → AreFormed es
    → records_of (records_bytes es ++ rest) ≡ es ++ records_of rest
unfolding records_bytes
spelled_records [] rest are = refl
spelled_records (e ∷ es) rest are =
    ap records_of (append_assoc (record_bytes e) (records_bytes es) rest)
    ∙ one_more (record_bytes e ++ (records_bytes es ++ rest)) e (records_bytes es ++ rest)
    (formed_cut e (records_bytes es ++ rest) are.0)
    ∙ ap (λ (l : List StreamRecord). e ∷ l) (spelled_records es rest are.1)

-- what can't be cut is all that is left
abbrev IsAll : List ℕ → StreamRecord × List ℕ → Type 0
IsAll bytes p = p.0.whole ≡ false → p.0.content ≡ bytes

all_of : (bytes : List ℕ) (code : ℕ) (content rest : List ℕ) (y p : StreamRecord × List ℕ) (low even high : Bool)
    → cond (low && (even && high)) (Some (record_of true code content, rest)) (Some y) ≡ Some p → IsAll bytes y
    → IsAll bytes p
all_of bytes code content rest y p false even high is g = subst (IsAll bytes) (same_Some y p is) g
all_of bytes code content rest y p true false high is g = subst (IsAll bytes) (same_Some y p is) g
all_of bytes code content rest y p true true false is g = subst (IsAll bytes) (same_Some y p is) g
all_of bytes code content rest y p true true true is g =
    subst (IsAll bytes) (same_Some (record_of true code content, rest) p is) (λ w. absurd cc)

broken_is_all : (bytes : List ℕ) (p : StreamRecord × List ℕ) → cut bytes ≡ Some p → IsAll bytes p
unfolding cut
broken_is_all [] p is = absurd cc
broken_is_all (a ∷ []) p is = subst (IsAll (a ∷ [])) (same_Some _ p is) (λ w. refl)
broken_is_all (a ∷ b ∷ []) p is = subst (IsAll (a ∷ b ∷ [])) (same_Some _ p is) (λ w. refl)
broken_is_all (a ∷ b ∷ c ∷ []) p is = subst (IsAll (a ∷ b ∷ c ∷ [])) (same_Some _ p is) (λ w. refl)
broken_is_all (a ∷ b ∷ c ∷ d ∷ rest) p is =
    all_of (a ∷ b ∷ c ∷ d ∷ rest) _ _ _ _ p (leb 4 (256 * a + b)) (eqb (b % 2) 0)
    (leb (256 * a + b) (length rest + 4)) is (λ w. refl)

-- zero bytes can't be cut
zero_cut : (z : ℕ) (zs : List ℕ) → AreZero (z ∷ zs) → cut (z ∷ zs) ≡ Some (broken_record (z ∷ zs), [])
unfolding cut
zero_cut z [] h = refl
zero_cut z (y ∷ []) h = refl
zero_cut z (y ∷ x ∷ []) h = refl
zero_cut z (y ∷ x ∷ w ∷ zs) h = let low : leb 4 (256 * z + y) ≡ false =
    lt-leb 4 (256 * z + y) (omega (arith, h.0, h.1.0)) in rw low refl

tail_same : (x y : StreamRecord) (xs ys : List StreamRecord) → ◌≡◌ {A = List StreamRecord} (x ∷ xs) (y ∷ ys) → xs ≡ ys
tail_same x y xs ys is = cc

head_same : (x y : StreamRecord) (xs ys : List StreamRecord) → ◌≡◌ {A = List StreamRecord} (x ∷ xs) (y ∷ ys) → x ≡ y
head_same x y xs ys is = cc

-- what has the records of zero bytes is zero bytes
same_as_zero_at : (z : ℕ) (zs rest : List ℕ) → AreZero (z ∷ zs) → records_of (z ∷ zs) ≡ records_of rest
    → (c : Option (StreamRecord × List ℕ)) → cut rest ≡ c → z ∷ zs ≡ rest
same_as_zero_at z zs rest nil is None none =
    let both : broken_record (z ∷ zs) ∷ records_of [] ≡ [] =
    sym (one_more (z ∷ zs) (broken_record (z ∷ zs)) [] (zero_cut z zs nil)) ∙ is ∙ none_left rest none in
    absurd cc
same_as_zero_at z zs rest nil is (Some p) some =
    let same = head_same (broken_record (z ∷ zs)) p.0 (records_of []) (records_of p.1)
    (sym (one_more (z ∷ zs) (broken_record (z ∷ zs)) [] (zero_cut z zs nil)) ∙ is ∙ one_more rest p.0 p.1 some) in
    let off : p.0.whole ≡ false = sym (ap (λ (e : StreamRecord). e.whole) same) in
    ap (λ (e : StreamRecord). e.content) same ∙ broken_is_all rest p some off

same_as_none : (rest : List ℕ) → records_of [] ≡ records_of rest → (c : Option (StreamRecord × List ℕ)) → cut rest ≡ c
    → [] ≡ rest
unfolding records_of
same_as_none [] is c e = refl
same_as_none (b ∷ rest) is None e = absurd (some_cut b rest e)
same_as_none (b ∷ rest) is (Some p) e = let both : [] ≡ p.0 ∷ records_of p.1 = is ∙ one_more (b ∷ rest) p.0 p.1 e in
    absurd cc

pub same_as_zero : (zs rest : List ℕ) → AreZero zs → records_of zs ≡ records_of rest → zs ≡ rest
same_as_zero [] rest nil is = same_as_none rest is (cut rest) refl
same_as_zero (z ∷ zs) rest nil is = same_as_zero_at z zs rest nil is (cut rest) refl

pub zero_bytes : (zs : List ℕ) → AreZero zs → AreBytes zs
zero_bytes [] nil = tt
zero_bytes (z ∷ zs) nil = (omega (arith, nil.0), zero_bytes zs nil.1)

-- the bytes after some of their records
pub record Splits (bytes : List ℕ) (done es : List StreamRecord) : Type 0 where
  pub rest : List ℕ
  pub parts : bytes ≡ records_bytes done ++ rest
  pub records : records_of rest ≡ es
  pub are : AreBytes rest

split_more : (bytes : List ℕ) (d : StreamRecord) (done es : List StreamRecord) → AreBytes bytes → is_formed d ≡ true
    → records_of bytes ≡ d ∷ (done ++ es)
    → ((rest : List ℕ) → AreBytes rest → records_of rest ≡ done ++ es → Splits rest done es)
    → (c : Option (StreamRecord × List ℕ)) → cut bytes ≡ c → Splits bytes (d ∷ done) es
unfolding records_bytes
split_more bytes d done es are formed is f None cuts = let both : d ∷ (done ++ es) ≡ [] = sym is
    ∙ none_left bytes cuts in absurd cc
split_more bytes d done es are formed is f (Some p) cuts =
    let same : p.0 ∷ records_of p.1 ≡ d ∷ (done ++ es) = sym (one_more bytes p.0 p.1 cuts) ∙ is in
    let first : p.0 ≡ d = head_same p.0 d (records_of p.1) (done ++ es) same in
    let others : records_of p.1 ≡ done ++ es = tail_same p.0 d (records_of p.1) (done ++ es) same in
    let back : Rebuilds bytes p = rebuild bytes p are cuts in
    let s = f p.1 (bytes_after (record_of_bytes p.0) p.1 (subst AreBytes (sym back) are)) others in
    let one : record_of_bytes p.0 ≡ record_bytes d = ap record_of_bytes first
    ∙ ap (λ w. cond w (record_bytes d) d.content) (formed_whole d formed) in
    record {
      rest = s.rest;
      parts = sym back ∙ ap (λ l. l ++ p.1) one ∙ ap (λ l. record_bytes d ++ l) s.parts
          ∙ sym (append_assoc (record_bytes d) (records_bytes done) s.rest);
      records = s.records;
      are = s.are;
    }

pub splits : (bytes : List ℕ) (done es : List StreamRecord) → AreBytes bytes → AreFormed done
    → records_of bytes ≡ done ++ es → Splits bytes done es
unfolding records_bytes
splits bytes [] es are formed is = record { rest = bytes; parts = refl; records = is; are = are }
splits bytes (d ∷ done) es are formed is =
    split_more bytes d done es are formed.0 is (λ rest some same. splits rest done es some formed.1 same) (cut bytes)
    refl

-- the first record, as its bytes stand
pub record IsFirst (rest : List ℕ) (e : StreamRecord) (after : List ℕ) : Type 0 where
  pub code : 4 ≤ length rest → e.code ≡ code_in rest
  pub whole : e.whole ≡ true → rest ≡ record_bytes e ++ after
  pub fits : e.whole ≡ true → (4 ≤ length_in rest) × (length_in rest ≤ length rest)
  pub broken : e.whole ≡ false → (length rest < 4)
      ⊎ ((length rest < length_in rest) ⊎ ((length_in rest % 2 ≡ 1) ⊎ (length_in rest < 4)))

first_broken : (b : ℕ) (bytes : List ℕ)
    → (length (b ∷ bytes) < 4) ⊎ ((length (b ∷ bytes) < length_in (b ∷ bytes))
    ⊎ ((length_in (b ∷ bytes) % 2 ≡ 1) ⊎ (length_in (b ∷ bytes) < 4)))
    → IsFirst (b ∷ bytes) (broken_record (b ∷ bytes)) []
first_broken b bytes why = record
    { code = λ le. refl; whole = λ w. absurd cc; fits = λ w. absurd cc; broken = λ w. why }

first_at : (bytes : List ℕ) (x y p : StreamRecord × List ℕ) (low even high : Bool)
    → cond (low && (even && high)) (Some x) (Some y) ≡ Some p
    → (low ≡ true → even ≡ true → high ≡ true → IsFirst bytes x.0 x.1) → (low ≡ false → IsFirst bytes y.0 y.1)
    → (even ≡ false → IsFirst bytes y.0 y.1) → (high ≡ false → IsFirst bytes y.0 y.1)
    → IsFirst bytes p.0 p.1
first_at bytes x y p false even high is f g h k =
    subst (λ (q : StreamRecord × List ℕ). IsFirst bytes q.0 q.1) (same_Some y p is) (g refl)
first_at bytes x y p true false high is f g h k =
    subst (λ (q : StreamRecord × List ℕ). IsFirst bytes q.0 q.1) (same_Some y p is) (h refl)
first_at bytes x y p true true false is f g h k =
    subst (λ (q : StreamRecord × List ℕ). IsFirst bytes q.0 q.1) (same_Some y p is) (k refl)
first_at bytes x y p true true true is f g h k =
    subst (λ (q : StreamRecord × List ℕ). IsFirst bytes q.0 q.1) (same_Some x p is) (f refl refl refl)

pub first_of : (rest : List ℕ) (e : StreamRecord) (after : List ℕ) → AreBytes rest → cut rest ≡ Some (e, after)
    → IsFirst rest e after
unfolding cut
first_of [] e after are is = absurd cc
first_of (a ∷ []) e after are is =
    subst (λ (q : StreamRecord × List ℕ). IsFirst (a ∷ []) q.0 q.1) (same_Some _ (e, after) is)
    (first_broken a [] (inl (omega arith)))
first_of (a ∷ b ∷ []) e after are is =
    subst (λ (q : StreamRecord × List ℕ). IsFirst (a ∷ b ∷ []) q.0 q.1) (same_Some _ (e, after) is)
    (first_broken a (b ∷ []) (inl (omega arith)))
first_of (a ∷ b ∷ c ∷ []) e after are is =
    subst (λ (q : StreamRecord × List ℕ). IsFirst (a ∷ b ∷ c ∷ []) q.0 q.1) (same_Some _ (e, after) is)
    (first_broken a (b ∷ c ∷ []) (inl (omega arith)))
first_of (a ∷ b ∷ c ∷ d ∷ rest) e after are is =
    first_at (a ∷ b ∷ c ∷ d ∷ rest) _ _ (e, after) (leb 4 (256 * a + b)) (eqb (b % 2) 0)
    (leb (256 * a + b) (length rest + 4)) is
    (λ low even high. record {
      code = λ le. refl;
      whole = λ w. sym (whole_rebuilds a b c d rest are.1.0 are.1.1.1.0 (leb-true _ _ low) (leb-true _ _ high));
      fits = λ w. (leb-true _ _ low, (let h = leb-true _ _ high in omega (arith, h)));
      broken = λ w. absurd cc;
    })
    (λ low. first_broken a (b ∷ c ∷ d ∷ rest) (inr (inr (inr (leb-false _ _ low)))))
    (λ even. first_broken a (b ∷ c ∷ d ∷ rest) (inr (inr (inl (odd a b even)))))
    (λ high. first_broken a (b ∷ c ∷ d ∷ rest) (inr (inl (let h = leb-false _ _ high in omega (arith, h))))) where
      odd : (a b : ℕ) → eqb (b % 2) 0 ≡ false → (256 * a + b) % 2 ≡ 1
      odd a b is = odd_of (λ e. (let both : true ≡ false = sym (eq-eqb (b % 2) 0 e) ∙ is in absurd cc)) where
        odd_of : (b % 2 ≡ 0 → ⊥) → (256 * a + b) % 2 ≡ 1
        odd_of f = omega (arith, f)
