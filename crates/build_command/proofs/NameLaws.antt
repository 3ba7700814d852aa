-- Names of files are ASCII.
use Rattle.std.proofs.Common.{◌≡◌, ◌<◌, ◌⊎◌, ℕ, Bool, true, false, List, [], ◌∷◌, Option, Some, None, refl, inl, inr, arith}
use Rattle.std.specs.Prelude.{IsTrue, IfSome, ◌&&◌, ◌||◌, not, nat_le, nat_eq, codes}
use Rattle.std.specs.List.{list_all}
use Rattle.std.specs.Str.{IsAscii}
use Rattle.std.proofs.lemmas.Bool.{leb-true, eqb-true}
use Rattle.std.proofs.lemmas.List.Elements.{All-from_recursion}
use Rattle.std.proofs.lemmas.Str.{IsAscii-append}
use Rattle.std.proofs.lemmas.Str.Ascii.{IsAscii-nil, IsAscii-cons}
use Rattle.or_host.specs.declared.file.MemFile.{MemFile}
use Rattle.sram_plan.specs.Config.{IsConfig, is_file_text, is_identifier, is_output_name, is_printable_byte, is_letter_byte, is_name_char, starts_with_letter}
use Rattle.sram_plan.specs.Keywords.{is_keyword}
use Rattle.sram_plan.specs.declared.config.Config.{Config}
use Rattle.macro_build.specs.declared.built.Built.{Built}
use Rattle.command_steps.specs.Writing.{HaveAsciiNames}
use Rattle.build_command.specs.Demonstration.{demo_files}
use Rattle.build_command.specs.Made.{in_folder, view_name, views}

both : (a b : Bool) → (a && b) ≡ true → (a ≡ true) × (b ≡ true)
both true true e = (refl, refl)
both true false e = absurd cc
both false b e = absurd cc

one_of : (a b : Bool) → (a || b) ≡ true → (a ≡ true) ⊎ (b ≡ true)
one_of true b e = inl refl
one_of false true e = inr refl
one_of false false e = absurd cc

-- where each byte is one of these
all_ascii : (p : ℕ → Bool) → ((b : ℕ) → p b ≡ true → b < 128) → (bytes : List ℕ) → list_all p bytes ≡ true → IsAscii bytes
all_ascii p small [] all = IsAscii-nil
all_ascii p small (b ∷ bs) all = let parts = both (p b) (list_all p bs) all in IsAscii-cons b bs (small b parts.0) (all_ascii p small bs parts.1)

abbrev pub is_ascii_byte : ℕ → Bool
is_ascii_byte b = nat_le b 127

ascii_small : (b : ℕ) → is_ascii_byte b ≡ true → b < 128
ascii_small b le = let most = leb-true b 127 le in omega (arith, most)

-- for a text that is written out
pub text_ascii : (text : List ℕ) → list_all is_ascii_byte text ≡ true → IsAscii text
text_ascii = all_ascii is_ascii_byte ascii_small

printable_small : (b : ℕ) → is_printable_byte b ≡ true → b < 128
printable_small b is = let le = leb-true b 126 (both (nat_le 32 b) (nat_le b 126) is).1 in omega (arith, le)

letter_small : (b : ℕ) → is_letter_byte b ≡ true → b < 128
letter_small b is =
    elim (one_of (nat_le 65 b && nat_le b 90) (nat_le 97 b && nat_le b 122) is) [
      | inl up ↦ (let most = leb-true b 90 (both (nat_le 65 b) (nat_le b 90) up).1 in omega (arith, most))
      | inr low ↦ (let most = leb-true b 122 (both (nat_le 97 b) (nat_le b 122) low).1 in omega (arith, most))
    ]

other_small : (b : ℕ) → ((nat_le 48 b && nat_le b 57) || nat_eq b 95) ≡ true → b < 128
other_small b is =
    elim (one_of (nat_le 48 b && nat_le b 57) (nat_eq b 95) is) [
      | inl digit ↦ (let most = leb-true b 57 (both (nat_le 48 b) (nat_le b 57) digit).1 in omega (arith, most))
      | inr line ↦ (let same = eqb-true b 95 line in omega (arith, same))
    ]

name_small : (b : ℕ) → is_name_char b ≡ true → b < 128
name_small b is = elim (one_of (is_letter_byte b) ((nat_le 48 b && nat_le b 57) || nat_eq b 95) is) [ inl letter ↦ letter_small b letter | inr other ↦ other_small b other ]

pub file_text_ascii : (text : List ℕ) → IsTrue (is_file_text text) → IsAscii text
file_text_ascii text is = all_ascii is_printable_byte printable_small text (both _ (list_all is_printable_byte text) is).1

pub output_name_ascii : (text : List ℕ) → IsTrue (is_output_name text) → IsAscii text
output_name_ascii text is =
    let name = (both (is_identifier text) (not (is_keyword text)) is).0 in
    all_ascii is_name_char name_small text (both (starts_with_letter text) (list_all is_name_char text) (both _ (starts_with_letter text && list_all is_name_char text) name).1).1

in_folder_ascii : (folder : Option (List ℕ)) (name : List ℕ) → IfSome folder (λ path. IsTrue (is_file_text path)) → IsAscii name → IsAscii (in_folder folder name)
in_folder_ascii None name is ascii = ascii
in_folder_ascii (Some folder) name is ascii = IsAscii-append folder (47 ∷ name) (file_text_ascii folder is) (IsAscii-cons 47 name (omega arith) ascii)

view_name_ascii : (config : Config) → IsConfig config → IsAscii (view_name config)
view_name_ascii config is = in_folder_ascii config.output_path config.output_name is.output_path (output_name_ascii config.output_name is.output_name)

pub views_ascii : (config : Config) (built : Built) → IsConfig config → HaveAsciiNames (views config built)
views_ascii config built is =
    let name = view_name config in
    let ascii = view_name_ascii config is in
    All-from_recursion (λ (file : MemFile). IsAscii file.name) (views config built) (
      IsAscii-append name (codes ".sp") ascii (text_ascii (codes ".sp") refl),
      (
        IsAscii-append name (codes ".gds") ascii (text_ascii (codes ".gds") refl),
        (IsAscii-append name (codes ".lef") ascii (text_ascii (codes ".lef") refl), (IsAscii-append name (codes ".v") ascii (text_ascii (codes ".v") refl), tt)),
      ),
    )

pub demo_files_ascii : (n : ℕ) → HaveAsciiNames (demo_files n)
demo_files_ascii n =
    All-from_recursion (λ (file : MemFile). IsAscii file.name) (demo_files n) (
      text_ascii (codes "demo.toml") refl,
      (text_ascii (codes "demo_tech.toml") refl, (text_ascii (codes "demo_tech.gds") refl, (text_ascii (codes "demo_tech.sp") refl, tt))),
    )
