-- What the code reads of a value is what its data has.
use Rattle.std.proofs.Common.{◌≡◌, List, [], ◌∷◌, map, String, string_bytes, refl, ap}
use Rattle.std.specs.Global.{Global}
use Rattle.std.specs.List.{list_any, list_all}
use Rattle.std.specs.Map.{keys_of}
use Rattle.std.specs.Str.{bytes_eq}
use Rattle.serde_json.specs.View.{view, items_view, members_view}
use Rattle.serde_json.specs.declared.value.Value.{Value}
use Rattle.sporadic_model.proofs.Mapped.{list_any-map}
use Rattle.taskset_json.specs.declared.form.Member.{Member}
use Rattle.taskset_json.specs.Members.{values_of, names_of}
use Rattle.taskset_json.specs.Form.{is_listed}
use Rattle.taskset_json.specs.Seen.{member_seen}

pub values_of-items_view : (vs : List Value) → values_of (items_view vs) ≡ map view vs
values_of-items_view [] = refl
values_of-items_view (v ∷ vs) = ap (λ ds. view v ∷ ds) (values_of-items_view vs)

pub each_listed : (form : List Member) (es : List (String Global × Value))
    → list_all (λ name. list_any (λ m. bytes_eq m.name.now (string_bytes name)) form) (keys_of es)
    ≡ list_all (is_listed (map member_seen form)) (names_of (members_view es))
each_listed form [] = refl
each_listed form (e ∷ es) = rw (each_listed form es, list_any-map member_seen (λ m. bytes_eq m.name (string_bytes e.0)) form)
