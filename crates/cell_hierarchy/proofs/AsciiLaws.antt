-- The texts of flat labels are ASCII.
use Rattle.std.proofs.Common.{◌≡◌, ℕ, List, [], ◌∷◌, sym, subst, arith}
use Rattle.std.specs.Prelude.{Contains}
use Rattle.std.specs.Str.{IsAscii}
use Rattle.std.specs.List.{AllByRecursion}
use Rattle.std.proofs.lemmas.Str.{IsAscii-append}
use Rattle.std.proofs.lemmas.Str.Ascii.{IsAscii-nil, IsAscii-cons}
use Rattle.or_geom.proofs.ListLaws.{all_contained, contains_first, contains_later}
use Rattle.gds_library.specs.declared.library.Structure.{Structure}
use Rattle.gds_library.specs.Writable.{IsWritableCell, IsWritableElement}
use Rattle.tech_rules.specs.declared.tech.Layer.{Layer}
use Rattle.element_drawing.specs.PlainLabel.{PlainLabel}
use Rattle.element_drawing.specs.OwnLabels.{own_labels}
use Rattle.cell_chains.specs.Instances.{Item}
use Rattle.cell_chains.specs.Chains.{elements_of, IsItemOf}
use Rattle.cell_chains.proofs.ChainLaws.{writable_elements}
use Rattle.cell_hierarchy.specs.FlatSet.{IsLabelBy, path_under}
use Rattle.cell_hierarchy.specs.Plain.{IsAsciiLabel}
use Rattle.cell_hierarchy.specs.Along.{FlatTextsAreAscii}
use Rattle.cell_hierarchy.proofs.CellLaws.{all_got}
use Rattle.cell_hierarchy.proofs.NameLaws.{item_name_ascii}
use Rattle.cell_hierarchy.proofs.PartLaws.{own_ascii, own_bare}
use Rattle.cell_hierarchy.proofs.ThingLaws.{item_in}

under_ascii : (name path : List ℕ) → IsAscii name → IsAscii path → IsAscii (path_under name path)
under_ascii name [] n p = n
under_ascii name (b ∷ bs) n p = IsAscii-append name (47 ∷ b ∷ bs) n (IsAscii-cons 47 (b ∷ bs) (omega arith) p)

item_ascii : (structs : List Structure) (name : List ℕ) (item : Item) → AllByRecursion IsWritableCell structs → IsItemOf structs name item → IsAscii item.name
item_ascii structs name item w h =
    let i = item_in (elements_of structs name) item h in
    item_name_ascii i.index i.element item (all_got IsWritableElement (elements_of structs name) i.index i.element (writable_elements structs name w) i.there) i.has

label_ascii : (layers : List Layer) (structs : List Structure) (name : List ℕ) (chain : List Item) (label : PlainLabel) → AllByRecursion IsWritableCell structs → IsLabelBy layers structs name chain label → IsAsciiLabel label
label_ascii layers structs name [] label w h =
    let es = elements_of structs name in
    let bare = all_contained (λ (l : PlainLabel). l.path ≡ []) (own_labels layers es) label (own_bare layers es) h in
    record { path = subst IsAscii (sym bare) IsAscii-nil; name = all_contained (λ (l : PlainLabel). IsAscii l.name) (own_labels layers es) label (own_ascii layers es (writable_elements structs name w)) h }
label_ascii layers structs name (item ∷ items) label w h =
    let inner = label_ascii layers structs item.cell items h.1 w h.2 in
    let m = h.3 in
    record { path = subst IsAscii (sym m.path) (under_ascii item.name h.1.path (item_ascii structs name item w h.0) inner.path); name = subst IsAscii (sym m.name) inner.name }

all_of : (P : PlainLabel → Type 0) (ls : List PlainLabel) → ((l : PlainLabel) → Contains ls l → P l) → AllByRecursion P ls
all_of P [] f = tt
all_of P (l ∷ ls) f = (f l (contains_first l ls), all_of P ls (λ k h. f k (contains_later l ls k h)))

pub texts_are_ascii : FlatTextsAreAscii
texts_are_ascii layers structs top lists w flat =
    all_of IsAsciiLabel lists.labels (λ l h. let f = (flat.labels_exact l).0 h in label_ascii layers structs top f.chain l w f.stands)
