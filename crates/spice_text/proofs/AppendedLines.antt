-- Lines that stand before other lines.
use Rattle.std.proofs.Common.{◌≡◌, ◌⊎◌, inl, inr, ℕ, ◌+◌, List, [], ◌∷◌, ◌++◌, length, Bool, true, false, cond, filter, refl, sym, ap, subst, ◌∙◌, arith}
use Rattle.std.specs.List.{AllByRecursion}
use Rattle.std.proofs.lemmas.List.{append_assoc, length-append}
use Rattle.or_geom.proofs.ListLaws.{never_empty}
use borrow.Author.Tests.{eqb-true}
use Rattle.spice_text.specs.Lines.{TextLine, is_lf, with_head, pieces, without_cr, numbered_lines}
use Rattle.spice_text.specs.LogicalLines.{counts, continues, joined, put_before, join}
use Rattle.spice_text.specs.Appended.{with_lf}
use Rattle.spice_text.proofs.WrittenLines.{NonePasses, piece_before, line_at, Read, IsApart}

-- pieces with a LF after each
abbrev pub ended : List (List ℕ) → List ℕ
ended [] = []
ended (piece ∷ pieces) = piece ++ 10 ∷ ended pieces

abbrev pub NoLf : List (List ℕ) → Type 0
NoLf ps = AllByRecursion (NonePasses is_lf) ps

pub ended_pieces : (ps : List (List ℕ)) (tail : List ℕ) → NoLf ps → pieces is_lf (ended ps ++ tail) ≡ ps ++ pieces is_lf tail
ended_pieces [] tail h = refl
ended_pieces (p ∷ ps) tail h =
    ap (pieces is_lf) (append_assoc p (10 ∷ ended ps) tail) ∙ piece_before is_lf p 10 (ended ps ++ tail) h.0 refl ∙ ap (λ (l : List (List ℕ)). p ∷ l) (ended_pieces ps tail h.1)

head_no_lf : (b : ℕ) (ps : List (List ℕ)) → is_lf b ≡ false → NoLf ps → NoLf (with_head b ps)
head_no_lf b [] e h = tt
head_no_lf b (p ∷ ps) e h = ((e, h.0), h.1)

pub pieces_no_lf : (bytes : List ℕ) → NoLf (pieces is_lf bytes)
pieces_no_lf [] = (tt, tt)
pieces_no_lf (b ∷ bytes) = at (is_lf b) refl (pieces_no_lf bytes) where
  at : (v : Bool) → is_lf b ≡ v → NoLf (pieces is_lf bytes) → NoLf (cond v ([] ∷ pieces is_lf bytes) (with_head b (pieces is_lf bytes)))
  at true e h = (tt, h)
  at false e h = head_no_lf b (pieces is_lf bytes) e h

pub front_no_lf : (xs ys : List (List ℕ)) → NoLf (xs ++ ys) → NoLf xs
front_no_lf [] ys h = tt
front_no_lf (x ∷ xs) ys h = (h.0, front_no_lf xs ys h.1)

-- the first piece is all, or a LF follows it
pub record Follows (bytes piece : List ℕ) (others : List (List ℕ)) : Type 0 where
  pub rest : List ℕ
  pub is : bytes ≡ piece ++ 10 ∷ rest
  pub pieces_of : pieces is_lf rest ≡ others

pub record IsAll (bytes piece : List ℕ) (others : List (List ℕ)) : Type 0 where
  pub none : others ≡ []
  pub is : bytes ≡ piece

grown : (b : ℕ) (bytes piece : List ℕ) (others : List (List ℕ)) → IsAll bytes piece others ⊎ Follows bytes piece others → IsAll (b ∷ bytes) (b ∷ piece) others ⊎ Follows (b ∷ bytes) (b ∷ piece) others
grown b bytes piece others (inl h) = inl (record { none = h.none; is = ap (λ (l : List ℕ). b ∷ l) h.is })
grown b bytes piece others (inr h) = inr (record { rest = h.rest; is = ap (λ (l : List ℕ). b ∷ l) h.is; pieces_of = h.pieces_of })

headed : (ps : List (List ℕ)) (b : ℕ) (bytes piece : List ℕ) (others : List (List ℕ)) → pieces is_lf bytes ≡ ps → with_head b ps ≡ piece ∷ others
    → ((q : List ℕ) (qs : List (List ℕ)) → pieces is_lf bytes ≡ q ∷ qs → IsAll bytes q qs ⊎ Follows bytes q qs) → IsAll (b ∷ bytes) piece others ⊎ Follows (b ∷ bytes) piece others
headed [] b bytes piece others e is next = absurd cc
headed (q ∷ qs) b bytes piece others e is next =
    let first : b ∷ q ≡ piece = cc in
    let last : qs ≡ others = cc in
    subst (λ (l : List ℕ). IsAll (b ∷ bytes) l others ⊎ Follows (b ∷ bytes) l others) first (subst (λ (ls : List (List ℕ)). IsAll (b ∷ bytes) (b ∷ q) ls ⊎ Follows (b ∷ bytes) (b ∷ q) ls) last (grown b bytes q qs (next q qs e)))

pub first_piece : (bytes piece : List ℕ) (others : List (List ℕ)) → pieces is_lf bytes ≡ piece ∷ others → IsAll bytes piece others ⊎ Follows bytes piece others
first_piece [] piece others e = let same : [] ≡ piece = cc in let none : [] ≡ others = cc in inl (record { none = sym none; is = same })
first_piece (b ∷ bytes) piece others e = at (is_lf b) refl e (λ q qs f. first_piece bytes q qs f) where
  at : (v : Bool) → is_lf b ≡ v → cond v ([] ∷ pieces is_lf bytes) (with_head b (pieces is_lf bytes)) ≡ piece ∷ others
      → ((q : List ℕ) (qs : List (List ℕ)) → pieces is_lf bytes ≡ q ∷ qs → IsAll bytes q qs ⊎ Follows bytes q qs) → IsAll (b ∷ bytes) piece others ⊎ Follows (b ∷ bytes) piece others
  at true is e next =
      let first : [] ≡ piece = cc in
      let last : pieces is_lf bytes ≡ others = cc in
      let lf : b ≡ 10 = eqb-true b 10 is in
      inr (record { rest = bytes; is = ap (λ k. k ∷ bytes) lf ∙ ap (λ (l : List ℕ). l ++ 10 ∷ bytes) first; pieces_of = last })
  at false is e next = headed (pieces is_lf bytes) b bytes piece others refl e next

-- bytes are cut where pieces are
pub record CutAt (bytes : List ℕ) (front others : List (List ℕ)) : Type 0 where
  pub rest : List ℕ
  pub is : bytes ≡ ended front ++ rest
  pub pieces_of : pieces is_lf rest ≡ others

further : (p : List ℕ) (front : List (List ℕ)) (q : List ℕ) (qs : List (List ℕ)) (bytes : List ℕ) → IsAll bytes p (front ++ q ∷ qs) ⊎ Follows bytes p (front ++ q ∷ qs)
    → ((rest : List ℕ) → pieces is_lf rest ≡ front ++ q ∷ qs → CutAt rest front (q ∷ qs)) → CutAt bytes (p ∷ front) (q ∷ qs)
further p front q qs bytes (inl h) next = absurd (never_empty front q qs h.none)
further p front q qs bytes (inr h) next =
    let c = next h.rest h.pieces_of in record { rest = c.rest; is = h.is ∙ ap (λ (l : List ℕ). p ++ 10 ∷ l) c.is ∙ sym (append_assoc p (10 ∷ ended front) c.rest); pieces_of = c.pieces_of }

pub cut_at : (front : List (List ℕ)) (q : List ℕ) (qs : List (List ℕ)) (bytes : List ℕ) → pieces is_lf bytes ≡ front ++ q ∷ qs → CutAt bytes front (q ∷ qs)
cut_at [] q qs bytes e = record { rest = bytes; is = refl; pieces_of = e }
cut_at (p ∷ front) q qs bytes e = further p front q qs bytes (first_piece bytes p (front ++ q ∷ qs) e) (λ rest f. cut_at front q qs rest f)

-- a LF at the end
lf_past : (p rest : List ℕ) → with_lf (p ++ 10 ∷ rest) ≡ p ++ 10 ∷ with_lf rest
lf_past [] [] = refl
lf_past [] (c ∷ rest) = refl
lf_past (b ∷ []) [] = refl
lf_past (b ∷ []) (c ∷ rest) = refl
lf_past (b ∷ c ∷ p) rest = ap (λ (l : List ℕ). b ∷ l) (lf_past (c ∷ p) rest)

pub ended_lf : (ps : List (List ℕ)) → with_lf (ended ps) ≡ ended ps
ended_lf [] = refl
ended_lf (p ∷ ps) = lf_past p (ended ps) ∙ ap (λ (l : List ℕ). p ++ 10 ∷ l) (ended_lf ps)

one_lf : (c : ℕ) (t : List ℕ) → NonePasses is_lf (c ∷ t) → with_lf (c ∷ t) ≡ (c ∷ t) ++ 10 ∷ []
one_lf c [] h = ap (λ v. cond v (c ∷ []) (c ∷ 10 ∷ [])) h.0
one_lf c (d ∷ t) h = ap (λ (l : List ℕ). c ∷ l) (one_lf d t h.1)

-- the bytes with a LF at the end have the same lines
pub record SameLines (bytes : List ℕ) (ps : List (List ℕ)) : Type 0 where
  pub lines : List (List ℕ)
  pub is : with_lf bytes ≡ ended lines
  pub no_lf : NoLf lines
  pub same : (n b : ℕ) → filter counts (numbered_lines n b lines) ≡ filter counts (numbered_lines n b ps)

alone : (p bytes : List ℕ) → bytes ≡ p → NonePasses is_lf p → SameLines bytes (p ∷ [])
alone [] bytes e h = record { lines = []; is = ap with_lf e; no_lf = tt; same = λ n b. refl }
alone (c ∷ t) bytes e h = record { lines = (c ∷ t) ∷ []; is = ap with_lf e ∙ one_lf c t h; no_lf = (h, tt); same = λ n b. refl }

preceded : (p bytes rest : List ℕ) (ps : List (List ℕ)) → bytes ≡ p ++ 10 ∷ rest → NonePasses is_lf p → SameLines rest ps → SameLines bytes (p ∷ ps)
preceded p bytes rest ps e h s = record {
  lines = p ∷ s.lines;
  is = ap with_lf e ∙ lf_past p rest ∙ ap (λ (l : List ℕ). p ++ 10 ∷ l) s.is;
  no_lf = (h, s.no_lf);
  same = λ n b. ap (λ (ls : List TextLine). cond (counts (line_at n b (without_cr p))) (line_at n b (without_cr p) ∷ ls) ls) (s.same (n + 1) (b + length p + 1));
}

head_some : (b : ℕ) (ps : List (List ℕ)) → (ps ≡ [] → ⊥) → with_head b ps ≡ [] → ⊥
head_some b [] f e = f refl
head_some b (p ∷ ps) f e = absurd cc

some_by : (v : Bool) (b : ℕ) (ps : List (List ℕ)) → (ps ≡ [] → ⊥) → cond v ([] ∷ ps) (with_head b ps) ≡ [] → ⊥
some_by true b ps f e = absurd cc
some_by false b ps f e = head_some b ps f e

some_piece : (bytes : List ℕ) → pieces is_lf bytes ≡ [] → ⊥
some_piece [] e = absurd cc
some_piece (b ∷ bytes) e = some_by (is_lf b) b (pieces is_lf bytes) (some_piece bytes) e

last_piece : (p bytes : List ℕ) → NonePasses is_lf p → IsAll bytes p [] ⊎ Follows bytes p [] → SameLines bytes (p ∷ [])
last_piece p bytes h (inl a) = alone p bytes a.is h
last_piece p bytes h (inr f) = absurd (some_piece f.rest f.pieces_of)

next_piece : (p q bytes : List ℕ) (ps : List (List ℕ)) → NonePasses is_lf p → IsAll bytes p (q ∷ ps) ⊎ Follows bytes p (q ∷ ps) → ((rest : List ℕ) → pieces is_lf rest ≡ q ∷ ps → SameLines rest (q ∷ ps)) → SameLines bytes (p ∷ q ∷ ps)
next_piece p q bytes ps h (inl a) next = let none = a.none in absurd cc
next_piece p q bytes ps h (inr f) next = preceded p bytes f.rest (q ∷ ps) f.is h (next f.rest f.pieces_of)

pub same_lines : (ps : List (List ℕ)) (bytes : List ℕ) → pieces is_lf bytes ≡ ps → NoLf ps → SameLines bytes ps
same_lines [] bytes e h = absurd (some_piece bytes e)
same_lines (p ∷ []) bytes e h = last_piece p bytes h.0 (first_piece bytes p [] e)
same_lines (p ∷ q ∷ ps) bytes e h = next_piece p q bytes ps h.0 (first_piece bytes p (q ∷ ps) e) (λ rest f. same_lines (q ∷ ps) rest f h.1)

-- lines and those that follow them
pub record Joins (ps : List (List ℕ)) (n b : ℕ) (tail : List ℕ) : Type 0 where
  pub number : ℕ
  pub before : ℕ
  pub is : join (filter counts (numbered_lines n b (ps ++ pieces is_lf tail))) ≡ join (filter counts (numbered_lines n b ps)) ++ Read number before tail

put_append : (line : TextLine) (lines after : List TextLine) → put_before line after ≡ line ∷ after → put_before line (lines ++ after) ≡ put_before line lines ++ after
put_append line [] after apart = apart
put_append line (k ∷ lines) after apart =
    elim (continues k) as (λ v. cond v (joined line k ∷ (lines ++ after)) (line ∷ k ∷ (lines ++ after)) ≡ cond v (joined line k ∷ lines) (line ∷ k ∷ lines) ++ after) [ true ↦ refl | false ↦ refl ]

joins_by : (v : Bool) (p : List ℕ) (ps : List (List ℕ)) (n b : ℕ) (tail : List ℕ) → counts (line_at n b (without_cr p)) ≡ v → IsApart tail → Joins ps (n + 1) (b + length p + 1) tail → Joins (p ∷ ps) n b tail
joins_by v p ps n b tail is apart j =
    let this = line_at n b (without_cr p) in
    let lines = filter counts (numbered_lines (n + 1) (b + length p + 1) ps) in
    let all = filter counts (numbered_lines (n + 1) (b + length p + 1) (ps ++ pieces is_lf tail)) in
    let after = Read j.number j.before tail in
    let both : join (cond v (this ∷ all) all) ≡ join (cond v (this ∷ lines) lines) ++ after = elim v as (λ w. join (cond w (this ∷ all) all) ≡ join (cond w (this ∷ lines) lines) ++ after) [
      | true ↦ ap (put_before this) j.is ∙ put_append this (join lines) after (apart this j.number j.before)
      | false ↦ j.is
    ] in
    record { number = j.number; before = j.before; is = ap (λ w. join (cond w (this ∷ all) all)) is ∙ both ∙ ap (λ w. join (cond w (this ∷ lines) lines) ++ after) (sym is) }

pub join_append : (ps : List (List ℕ)) (n b : ℕ) (tail : List ℕ) → IsApart tail → Joins ps n b tail
join_append [] n b tail apart = record { number = n; before = b; is = refl }
join_append (p ∷ ps) n b tail apart = joins_by (counts (line_at n b (without_cr p))) p ps n b tail refl apart (join_append ps (n + 1) (b + length p + 1) tail apart)

-- where a logical line begins, a piece begins
pub record CutLines (ps : List (List ℕ)) (n b : ℕ) (front : List TextLine) (line : TextLine) : Type 0 where
  pub before : List (List ℕ)
  pub first : List ℕ
  pub after : List (List ℕ)
  pub parts : ps ≡ before ++ first ∷ after
  pub lines : join (filter counts (numbered_lines n b before)) ≡ front
  pub place : line.before ≡ b + length (ended before)

head_before : (this : TextLine) (lines : List TextLine) (line : TextLine) (more : List TextLine) → put_before this lines ≡ line ∷ more → line.before ≡ this.before
head_before this [] line more e = let same : this ≡ line = cc in ap (λ (l : TextLine). l.before) (sym same)
head_before this (k ∷ lines) line more e = at (continues k) e where
  at : (v : Bool) → cond v (joined this k ∷ lines) (this ∷ k ∷ lines) ≡ line ∷ more → line.before ≡ this.before
  at true e = let same : joined this k ≡ line = cc in ap (λ (l : TextLine). l.before) (sym same)
  at false e = let same : this ≡ line = cc in ap (λ (l : TextLine). l.before) (sym same)

-- the lines before a later one, without the first
pub record Shorter (this : TextLine) (lines : List TextLine) (a : TextLine) (front : List TextLine) (line : TextLine) (more : List TextLine) : Type 0 where
  pub inner : List TextLine
  pub parts : lines ≡ inner ++ line ∷ more
  pub is : put_before this inner ≡ a ∷ front

apart_put : (this k a line : TextLine) (front more lines : List TextLine) → continues k ≡ false → this ≡ a → k ∷ lines ≡ front ++ line ∷ more → put_before this front ≡ a ∷ front
apart_put this k a line [] more lines off same e = ap (λ (l : TextLine). l ∷ []) same
apart_put this k a line (j ∷ front) more lines off same e =
    let first : k ≡ j = cc in
    ap (λ v. cond v (joined this j ∷ front) (this ∷ j ∷ front)) (ap continues (sym first) ∙ off) ∙ ap (λ (l : TextLine). l ∷ j ∷ front) same

shorter_at : (v : Bool) (this k a line : TextLine) (front more lines : List TextLine) → continues k ≡ v → cond v (joined this k ∷ lines) (this ∷ k ∷ lines) ≡ a ∷ (front ++ line ∷ more) → Shorter this (k ∷ lines) a front line more
shorter_at true this k a line front more lines on e =
    let first : joined this k ≡ a = cc in
    let last : lines ≡ front ++ line ∷ more = cc in
    record { inner = k ∷ front; parts = ap (λ (ls : List TextLine). k ∷ ls) last; is = ap (λ v. cond v (joined this k ∷ front) (this ∷ k ∷ front)) on ∙ ap (λ (l : TextLine). l ∷ front) first }
shorter_at false this k a line front more lines off e =
    let first : this ≡ a = cc in
    let last : k ∷ lines ≡ front ++ line ∷ more = cc in
    record { inner = front; parts = last; is = apart_put this k a line front more lines off first last }

nothing_there : (front : List TextLine) (line : TextLine) (more : List TextLine) → [] ≡ front ++ line ∷ more → ⊥
nothing_there [] line more e = absurd cc
nothing_there (f ∷ front) line more e = absurd cc

shorter : (this : TextLine) (lines : List TextLine) (a : TextLine) (front : List TextLine) (line : TextLine) (more : List TextLine) → put_before this lines ≡ a ∷ (front ++ line ∷ more) → Shorter this lines a front line more
shorter this [] a front line more e = let none : [] ≡ front ++ line ∷ more = cc in absurd (nothing_there front line more none)
shorter this (k ∷ lines) a front line more e = shorter_at (continues k) this k a line front more lines refl e

abbrev Cuts : List (List ℕ) → ℕ → ℕ → Type 0
Cuts ps n b = (front : List TextLine) (line : TextLine) (more : List TextLine) → join (filter counts (numbered_lines n b ps)) ≡ front ++ line ∷ more → CutLines ps n b front line

dropped : (p : List ℕ) (ps : List (List ℕ)) (n b : ℕ) (front : List TextLine) (line : TextLine) → counts (line_at n b (without_cr p)) ≡ false → CutLines ps (n + 1) (b + length p + 1) front line → CutLines (p ∷ ps) n b front line
dropped p ps n b front line off c = record {
  before = p ∷ c.before;
  first = c.first;
  after = c.after;
  parts = ap (λ (l : List (List ℕ)). p ∷ l) c.parts;
  lines = ap (λ v. join (cond v (line_at n b (without_cr p) ∷ filter counts (numbered_lines (n + 1) (b + length p + 1) c.before)) (filter counts (numbered_lines (n + 1) (b + length p + 1) c.before)))) off ∙ c.lines;
  place = let sized : length (p ++ 10 ∷ ended c.before) ≡ length p + length (10 ∷ ended c.before) = length-append p (10 ∷ ended c.before) in let there = c.place in omega (arith, sized, there);
}

kept_cut : (p : List ℕ) (ps : List (List ℕ)) (n b : ℕ) (front : List TextLine) (line : TextLine) (more : List TextLine) → counts (line_at n b (without_cr p)) ≡ true
    → put_before (line_at n b (without_cr p)) (join (filter counts (numbered_lines (n + 1) (b + length p + 1) ps))) ≡ front ++ line ∷ more → Cuts ps (n + 1) (b + length p + 1) → CutLines (p ∷ ps) n b front line
kept_cut p ps n b [] line more on e next = record {
  before = [];
  first = p;
  after = ps;
  parts = refl;
  lines = refl;
  place = let there = head_before (line_at n b (without_cr p)) (join (filter counts (numbered_lines (n + 1) (b + length p + 1) ps))) line more e in omega (arith, there);
}
kept_cut p ps n b (a ∷ front) line more on e next =
    let s = shorter (line_at n b (without_cr p)) (join (filter counts (numbered_lines (n + 1) (b + length p + 1) ps))) a front line more e in
    let c = next s.inner line more s.parts in
    record {
      before = p ∷ c.before;
      first = c.first;
      after = c.after;
      parts = ap (λ (l : List (List ℕ)). p ∷ l) c.parts;
      lines = ap (λ v. join (cond v (line_at n b (without_cr p) ∷ filter counts (numbered_lines (n + 1) (b + length p + 1) c.before)) (filter counts (numbered_lines (n + 1) (b + length p + 1) c.before)))) on
          ∙ ap (put_before (line_at n b (without_cr p))) c.lines ∙ s.is;
      place = let sized : length (p ++ 10 ∷ ended c.before) ≡ length p + length (10 ∷ ended c.before) = length-append p (10 ∷ ended c.before) in let there = c.place in omega (arith, sized, there);
    }

cut_by : (v : Bool) (p : List ℕ) (ps : List (List ℕ)) (n b : ℕ) (front : List TextLine) (line : TextLine) (more : List TextLine) → counts (line_at n b (without_cr p)) ≡ v
    → join (cond v (line_at n b (without_cr p) ∷ filter counts (numbered_lines (n + 1) (b + length p + 1) ps)) (filter counts (numbered_lines (n + 1) (b + length p + 1) ps))) ≡ front ++ line ∷ more
    → Cuts ps (n + 1) (b + length p + 1) → CutLines (p ∷ ps) n b front line
cut_by true p ps n b front line more is e next = kept_cut p ps n b front line more is e next
cut_by false p ps n b front line more is e next = dropped p ps n b front line is (next front line more e)

pub cut_lines : (ps : List (List ℕ)) (n b : ℕ) → Cuts ps n b
cut_lines [] n b front line more e = absurd (nothing_there front line more e)
cut_lines (p ∷ ps) n b front line more e = cut_by (counts (line_at n b (without_cr p))) p ps n b front line more refl e (cut_lines ps (n + 1) (b + length p + 1))
