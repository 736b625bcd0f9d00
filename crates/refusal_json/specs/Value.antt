-- The JSON value of a refusal. The members are in the order of their names.
use Rattle.std.specs.Prelude.{ℕ, List, map, codes}
use Rattle.serde_json.specs.Data.{Data, string, array, object, no_members, member}
use Rattle.serde_json.specs.View.{items_of}
use Rattle.cert_json.specs.Digests.{digest_text}
use Rattle.cert_json.specs.Value.{number_data, dual_data}
use Rattle.refusal_laws.specs.Steps.{StepDef}

abbrev pub step_data : StepDef → Data
step_data s =
    object
    (member (codes "point") (dual_data s.point)
    (member (codes "task") (number_data s.task)
    (member (codes "value") (number_data s.value) no_members)))

-- A refusal of these steps for the protocol of this word, and the set of this digest.
abbrev pub refusal_data : List ℕ → List ℕ → List StepDef → Data
refusal_data word digest steps =
    object
    (member (codes "protocol") (string word)
    (member (codes "set") (string (digest_text digest))
    (member (codes "steps") (array (items_of (map step_data steps)))
    (member (codes "verdict") (string (codes "notshown"))
    (member (codes "version") (number_data 1) no_members)))))
