-- Rows that are read one after another.
use Rattle.std.proofs.Common.{◌≡◌, ℕ, ◌+◌, ◌<◌, ◌≤◌, ◌^◌, List, [], ◌∷◌, ◌++◌, length, take, drop, get_or, refl, sym, ap, ◌∙◌, arith}
use Rattle.std.proofs.lemmas.List.{take_more, map-append, length-map, length-take-le, take-append-drop}
use Rattle.std.proofs.lemmas.List.Elements.{All-nil, All-push, Contains-get_or}
use Rattle.std.proofs.lemmas.List.Quantifiers.{all_pairs_push}
use Rattle.or_geom.specs.Gathering.{SomeHas}
use Rattle.or_geom.proofs.GatheringLaws.{some_has}
use Rattle.or_geom.proofs.ListLaws.{rest_at}
use Rattle.cell_roles.specs.declared.leaf_role.LeafRole.{LeafRole}
use Rattle.cell_roles.specs.RowTexts.{row_text}
use Rattle.cell_roles.specs.Tables.{TableRow}
use Rattle.role_tables.specs.Fault.{IsBadText, IsFirstBadText}
use Rattle.role_tables.specs.Point.{MatchOnePoint}
use Rattle.role_tables.specs.Table.{HasWidths, IsWrittenAs, AreRoleRows}
use Rattle.role_tables.proofs.FewRows.{few_rows}

pub turned_round : (a b : TableRow) → MatchOnePoint a b → MatchOnePoint b a
turned_round a b both = record { point = both.point; first = both.second; second = both.first }

-- no rows yet
pub no_rows : (role : LeafRole) → AreRoleRows role [] []
no_rows role = record {
  are = refl;
  apart = record {
    widths = All-nil (HasWidths role);
    apart = λ i j d before lt. absurd (omega arith);
  };
}

-- one row more, which shares no point with those before it
pub row_more : (role : LeafRole) (texts : List (List ℕ)) (i : ℕ) (text : List ℕ) (rows : List TableRow) (row : TableRow)
    → i < length texts → text ≡ get_or texts i text → AreRoleRows role (take i texts) rows → IsWrittenAs role text row → (SomeHas (MatchOnePoint row) rows → ⊥)
    → AreRoleRows role (take (i + 1) texts) (rows ++ row ∷ [])
row_more role texts i text rows row lt at are written apart = record {
  are = take_more texts i text lt ∙ ap (λ (t : List ℕ). take i texts ++ t ∷ []) (sym at ∙ written.is)
      ∙ ap (λ (l : List (List ℕ)). l ++ row_text row ∷ []) are.are ∙ sym (map-append row_text rows (row ∷ []));
  apart = record {
    widths = All-push (HasWidths role) rows row are.apart.widths written.widths;
    apart = all_pairs_push (λ a b. MatchOnePoint a b → ⊥) rows row are.apart.apart
        (λ k d within both. apart (some_has (MatchOnePoint row) rows (get_or rows k d) (Contains-get_or rows k d within) (turned_round (get_or rows k d) row both)));
  };
}

-- the rows so far are as many as the texts
pub as_many : (role : LeafRole) (texts : List (List ℕ)) (i : ℕ) (rows : List TableRow) → i ≤ length texts → AreRoleRows role (take i texts) rows → i ≡ length rows
as_many role texts i rows within are = sym (length-take-le i texts within) ∙ ap length are.are ∙ length-map rows row_text

pub index_fits : (role : LeafRole) (texts : List (List ℕ)) (i : ℕ) (rows : List TableRow) → i ≤ length texts → AreRoleRows role (take i texts) rows → i < 2 ^ 32
index_fits role texts i rows within are =
    let bound = few_rows role rows are.apart in
    let many = as_many role texts i rows within are in
    omega arith

-- after the rows so far this text is bad
pub first_bad : (role : LeafRole) (texts : List (List ℕ)) (i : ℕ) (text : List ℕ) (rows : List TableRow)
    → i < length texts → text ≡ get_or texts i text → AreRoleRows role (take i texts) rows → IsBadText role rows text → IsFirstBadText role texts i
first_bad role texts i text rows lt at are bad = record {
  before = rows;
  text = text;
  after = drop (i + 1) texts;
  split = sym (take-append-drop i texts) ∙ ap (λ (l : List (List ℕ)). take i texts ++ l) (rest_at texts i text lt at)
      ∙ ap (λ (l : List (List ℕ)). l ++ text ∷ drop (i + 1) texts) are.are;
  place = as_many role texts i rows (omega arith) are;
  apart = are.apart;
  bad = bad;
}
