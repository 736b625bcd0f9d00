-- What a contract sees of the members that the code lists.
use Rattle.taskset_json.specs.declared.form.Member.{Member}
use Rattle.taskset_json.specs.Form.{MemberDef}

abbrev pub member_seen : Member → MemberDef
member_seen m = record { name = m.name.now; kind = m.kind; required = m.required }
