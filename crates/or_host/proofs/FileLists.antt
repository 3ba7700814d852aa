-- What a change of a list of files does to the files.
use Rattle.std.proofs.Common.{◌≡◌, ◌≢◌, ℕ, zero, suc, ◌<◌, cond, List, [], ◌∷◌, ◌++◌, length, get_or, set, Some, None, refl, sym, ap, subst, ◌∙◌, arith}
use Rattle.std.specs.Str.{bytes_eq}
use Rattle.std.proofs.lemmas.Slice.Eq.{bytes_eq-Decides}
use Rattle.or_geom.proofs.NameLaws.{other_name}
use Rattle.or_host.specs.declared.file.MemFile.{MemFile}
use Rattle.or_host.specs.Files.{Holds}
use Rattle.or_host.specs.FileList.{files_of, NoneBefore, IsFirstPlace}

-- one more that has another name
pub none_more : (n : ℕ) (files : List MemFile) (name : List ℕ) (d : MemFile) → NoneBefore n files name → n < length files → (get_or files n d).name ≢ name → NoneBefore (suc n) files name
none_more zero [] name d none lt ne = absurd (omega arith)
none_more zero (f ∷ fs) name d none lt ne = (ne, tt)
none_more (suc n) [] name d none lt ne = absurd (omega arith)
none_more (suc n) (f ∷ fs) name d none lt ne = (none.0, none_more n fs name d none.1 (omega arith) ne)

pub not_there : (files : List MemFile) (name : List ℕ) → NoneBefore (length files) files name → files_of files name ≡ None
not_there [] name none = refl
not_there (f ∷ fs) name none = rw (other_name f.name name none.0) (not_there fs name none.1)

pub there : (n : ℕ) (files : List MemFile) (name : List ℕ) (d : MemFile) → NoneBefore n files name → n < length files → (get_or files n d).name ≡ name → files_of files name ≡ Some (get_or files n d).bytes
there zero [] name d none lt e = absurd (omega arith)
there zero (f ∷ fs) name d none lt e = rw ((bytes_eq-Decides f.name name).1 e) refl
there (suc n) [] name d none lt e = absurd (omega arith)
there (suc n) (f ∷ fs) name d none lt e = rw (other_name f.name name none.0) (there n fs name d none.1 (omega arith) e)

-- a file is put in the place of the first of its name
pub set_here : (n : ℕ) (files : List MemFile) (name : List ℕ) (f : MemFile) → NoneBefore n files name → n < length files → f.name ≡ name → files_of (set files n f) name ≡ Some f.bytes
set_here zero [] name g none lt e = absurd (omega arith)
set_here zero (f ∷ fs) name g none lt e = rw ((bytes_eq-Decides g.name name).1 e) refl
set_here (suc n) [] name g none lt e = absurd (omega arith)
set_here (suc n) (f ∷ fs) name g none lt e = rw (other_name f.name name none.0) (set_here n fs name g none.1 (omega arith) e)

pub set_others : (n : ℕ) (files : List MemFile) (name other : List ℕ) (f d : MemFile) → other ≢ name → n < length files → (get_or files n d).name ≡ name → f.name ≡ name → files_of (set files n f) other ≡ files_of files other
set_others zero [] name other g d ne lt e k = absurd (omega arith)
set_others zero (f ∷ fs) name other g d ne lt e k =
    rw (other_name g.name other (λ p. ne (sym p ∙ k)), other_name f.name other (λ p. ne (sym p ∙ e))) refl
set_others (suc n) [] name other g d ne lt e k = absurd (omega arith)
set_others (suc n) (f ∷ fs) name other g d ne lt e k = ap (λ r. cond (bytes_eq f.name other) (Some f.bytes) r) (set_others n fs name other g d ne (omega arith) e k)

-- a file is added at the end
pub push_here : (files : List MemFile) (name : List ℕ) (f : MemFile) → NoneBefore (length files) files name → f.name ≡ name → files_of (files ++ f ∷ []) name ≡ Some f.bytes
push_here [] name g none e = rw ((bytes_eq-Decides g.name name).1 e) refl
push_here (f ∷ fs) name g none e = rw (other_name f.name name none.0) (push_here fs name g none.1 e)

pub push_others : (files : List MemFile) (name other : List ℕ) (f : MemFile) → other ≢ name → f.name ≡ name → files_of (files ++ f ∷ []) other ≡ files_of files other
push_others [] name other g ne e = rw (other_name g.name other (λ p. ne (sym p ∙ e))) refl
push_others (f ∷ fs) name other g ne e = ap (λ r. cond (bytes_eq f.name other) (Some f.bytes) r) (push_others fs name other g ne e)

pub put_set : (files seen : List MemFile) (name bytes : List ℕ) (i : ℕ) (old : MemFile) (b : List ℕ) → seen ≡ files → IsFirstPlace seen name i → old ≡ get_or files i old → b ≡ bytes
    → Holds (files_of files) (files_of (set files i (record { name = old.name; bytes = b }))) name bytes
put_set files seen name bytes i old b e at is k =
    let at2 : IsFirstPlace files name i = subst (λ fs. IsFirstPlace fs name i) e at in
    let f : MemFile = record { name = old.name; bytes = b } in
    let named : old.name ≡ name = ap (λ (g : MemFile). g.name) is ∙ at2.here old in
    record {
      here = set_here i files name f at2.none_before at2.within named ∙ ap (λ (x : List ℕ). Some x) k;
      others = λ other ne. set_others i files name other f old ne at2.within (at2.here old) named;
    }

pub put_push : (files seen new : List MemFile) (name bytes : List ℕ) (f : MemFile) → seen ≡ files → NoneBefore (length seen) seen name → f.name ≡ name → f.bytes ≡ bytes → new ≡ files ++ f ∷ []
    → Holds (files_of files) (files_of new) name bytes
put_push files seen new name bytes f e none named k is =
    let none2 : NoneBefore (length files) files name = subst (λ fs. NoneBefore (length fs) fs name) e none in
    record {
      here = ap (λ fs. files_of fs name) is ∙ push_here files name f none2 named ∙ ap (λ (x : List ℕ). Some x) k;
      others = λ other ne. ap (λ fs. files_of fs other) is ∙ push_others files name other f ne named;
    }
