-- Where a file is in a list of files, and what is left of it.
use Rattle.std.proofs.Common.{◌≡◌, ℕ, ◌+◌, ◌<◌, ◌≤◌, List, [], true, length, get_or, drop, refl, sym, ap, ◌∙◌}
use Rattle.std.proofs.Math.Seq.{drop-nil}
use Rattle.std.proofs.lemmas.List.{drop_more, drop_all, drop-map, at_drop_more, at_drop_all}
use Rattle.std.specs.Prelude.{String, Vec, string_bytes, Some, None, if◌then◌else◌}
use Rattle.std.specs.Str.{bytes_eq}
use Rattle.std.specs.Global.{Global}
use Rattle.outside_ports.specs.Names.{bytes_of}
use Rattle.outside_ports.specs.MemoryShelfView.{inputs_of, rest_at}

pub rest_at-file : (files : List (String Global × Vec ℕ Global)) (place at : ℕ) (d : String Global × Vec ℕ Global) → place < length files
    → rest_at (inputs_of files) place at ≡ drop at (get_or files place d).1.items
rest_at-file files place at d h = rw (drop-map, drop_more files place d h) refl

pub rest_at-past : (files : List (String Global × Vec ℕ Global)) (place at : ℕ) → length files ≤ place
    → rest_at (inputs_of files) place at ≡ []
rest_at-past files place at h = rw (drop-map, drop_all place files h) (drop-nil at)

-- from a place on, the name has the bytes of that file, or those that it has further on
pub bytes_of-drop : (files : List (String Global × Vec ℕ Global)) (name : List ℕ) (place : ℕ)
    (d : String Global × Vec ℕ Global) → place < length files
    → bytes_of (inputs_of (drop place files)) name
    ≡ (if bytes_eq (string_bytes (get_or files place d).0) name then Some (get_or files place d).1.items
    else bytes_of (inputs_of (drop (place + 1) files)) name)
bytes_of-drop files name place d h = at_drop_more (λ left. bytes_of (inputs_of left) name) files place d h

pub bytes_of-drop_all : (files : List (String Global × Vec ℕ Global)) (name : List ℕ) (place : ℕ) → length files ≤ place
    → bytes_of (inputs_of (drop place files)) name ≡ None
bytes_of-drop_all files name place h = at_drop_all (λ left. bytes_of (inputs_of left) name) files place h

-- the file at this place has the name
pub bytes_of-found : (files : List (String Global × Vec ℕ Global)) (name : List ℕ) (place : ℕ)
    (file : String Global × Vec ℕ Global) → place < length files
    → file ≡ get_or files place file → bytes_eq (string_bytes file.0) name ≡ true
    → bytes_of (inputs_of (drop place files)) name ≡ Some (rest_at (inputs_of files) place 0)
bytes_of-found files name place file h is same =
    let here : bytes_eq (string_bytes (get_or files place file).0) name ≡ true =
    ap (λ other. bytes_eq (string_bytes other.0) name) (sym is) ∙ same in
    rw (bytes_of-drop files name place file h, here, rest_at-file files place 0 file h) refl
