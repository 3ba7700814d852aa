-- Records of a stream: what each may hold, whatever stands before it.
use Rattle.std.specs.Prelude.{◌≡◌, ℕ, ◌%◌, List, [], ◌∷◌, length, Bool, true, false, ◌&&◌, nat_le, nat_lt, ◌==◌, if◌then◌else◌, slice_index, take, ◌-◌}
use Rattle.std.specs.List.{list_all, AllByRecursion}
use Rattle.gds_records.specs.declared.form.Form.{Form}
use Rattle.gds_records.specs.declared.form.Form.TheVariants.{Sized, Points, Text, Even, Unknown}
use Rattle.gds_records.specs.declared.code.TheConstants.{HEADER, BGNLIB, LIBNAME, UNITS, ENDLIB, BGNSTR, STRNAME, ENDSTR, BOUNDARY, PATH, SREF, AREF, TEXT, LAYER, DATATYPE, WIDTH, XY, ENDEL, SNAME, COLROW, NODE, TEXTTYPE, PRESENTATION, STRING, STRANS, MAG, ANGLE, REFLIBS, FONTS, PATHTYPE, GENERATIONS, ATTRTABLE, ELFLAGS, NODETYPE, PROPATTR, PROPVALUE, BOX, BOXTYPE, PLEX, BGNEXTN, ENDEXTN}
use Rattle.gds_records.specs.declared.limits.TheConstants.{LEAST_CHARACTER, GREATEST_CHARACTER, MOST_CHARACTERS}

-- a record, or what is left of a file where no whole record stands
pub record StreamRecord : Type 0 where
  pub whole : Bool
  pub code : ℕ
  pub content : List ℕ

abbrev pub record_of : Bool → ℕ → List ℕ → StreamRecord
record_of whole code content = record { whole = whole; code = code; content = content }

abbrev pub form_in : ℕ → List (ℕ × Form) → Form
form_in code [] = Unknown
form_in code (row ∷ rows) = if row.0 == code then row.1 else form_in code rows

-- the table of records
abbrev pub record_table : List (ℕ × Form)
record_table =
    (HEADER, Sized 2) ∷ (BGNLIB, Sized 24) ∷ (LIBNAME, Text) ∷ (UNITS, Sized 16) ∷ (ENDLIB, Sized 0) ∷
    (BGNSTR, Sized 24) ∷ (STRNAME, Text) ∷ (ENDSTR, Sized 0) ∷
    (BOUNDARY, Sized 0) ∷ (PATH, Sized 0) ∷ (SREF, Sized 0) ∷ (AREF, Sized 0) ∷ (TEXT, Sized 0) ∷ (NODE, Sized 0)
    ∷ (BOX, Sized 0) ∷
    (LAYER, Sized 2) ∷ (DATATYPE, Sized 2) ∷ (TEXTTYPE, Sized 2) ∷ (NODETYPE, Sized 2) ∷ (BOXTYPE, Sized 2) ∷
    (WIDTH, Sized 4) ∷ (XY, Points) ∷ (ENDEL, Sized 0) ∷ (SNAME, Text) ∷ (COLROW, Sized 4) ∷ (PRESENTATION, Sized 2) ∷
    (STRING, Text) ∷ (STRANS, Sized 2) ∷ (MAG, Sized 8) ∷ (ANGLE, Sized 8) ∷
    (REFLIBS, Even) ∷ (FONTS, Even) ∷ (ATTRTABLE, Even) ∷ (PATHTYPE, Sized 2) ∷ (GENERATIONS, Sized 2)
    ∷ (ELFLAGS, Sized 2) ∷
    (PROPATTR, Sized 2) ∷ (PROPVALUE, Text) ∷ (PLEX, Sized 4) ∷ (BGNEXTN, Sized 4) ∷ (ENDEXTN, Sized 4) ∷ []

abbrev pub form_of : ℕ → Form
form_of code = form_in code record_table

abbrev pub is_printable : ℕ → Bool
is_printable b = nat_le LEAST_CHARACTER b && nat_le b GREATEST_CHARACTER

-- a text without the zero byte after one of odd length
abbrev pub unpadded : List ℕ → List ℕ
unpadded content = if (nat_lt 0 (length content))
    && (slice_index content (length content - 1) == 0) then take (length content - 1) content else content

abbrev pub is_record_text : List ℕ → Bool
is_record_text text = nat_le 1 (length text) && (nat_le (length text) MOST_CHARACTERS && list_all is_printable text)

abbrev pub has_form : Form → List ℕ → Bool
has_form (Sized n) content = length content == n
has_form Points content = nat_le 8 (length content) && (length content % 8 == 0)
has_form Text content = (length content % 2 == 0) && is_record_text (unpadded content)
has_form Even content = length content % 2 == 0
has_form Unknown content = false

-- a record of the table, with data of its form
unfoldable pub is_formed : StreamRecord → Bool
is_formed e = e.whole && has_form (form_of e.code) e.content

-- records of the table, each with data of its form
abbrev pub AreFormed : List StreamRecord → Type 0
AreFormed es = AllByRecursion (λ (e : StreamRecord). is_formed e ≡ true) es
