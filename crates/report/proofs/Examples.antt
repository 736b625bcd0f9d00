-- The tables of two tasks on processors of their own.
use Rattle.std.proofs.Common.{◌≡◌, ◌++◌, [], ◌∷◌, refl}
use Rattle.std.specs.Prelude.{codes}
use Rattle.std.specs.Fmt.{digits}
use Rattle.sporadic_model.specs.SetDef.{SetDef, TaskDef}
use Rattle.report.specs.Table.{header, task_line, load_lines, table_text}
use Rattle.report.specs.FullTable.{full_line}

abbrev first : TaskDef
first = record { name = codes "t1"; processor = 1; period = 10; deadline = 10; cost = 3; local = 3; jitter = 0; requests = [] }

abbrev second : TaskDef
second = record { name = codes "t2"; processor = 2; period = 1000000000; deadline = 12; cost = 4; local = 2; jitter = 0; requests = [] }

abbrev two : SetDef
two = record { processors = 2; resources = []; tasks = first ∷ second ∷ [] }

-- The header, the line of each task, and the loads of both processors: 3 of 10 ticks, and 4 of 10^9.
pub header_of_two : header ≡ codes "task                            cpu     period   deadline       cost      local\n"
header_of_two = refl

pub line_of_first : task_line first ≡ codes "t1                                1         10         10          3          3\n"
unfolding digits
line_of_first = refl

pub line_of_second : task_line second ≡ codes "t2                                2 1000000000         12          4          2\n"
unfolding digits
line_of_second = refl

pub loads_of_two : load_lines two ≡ codes "load 1 300000\nload 2 0\n"
unfolding digits
loads_of_two = refl

-- They are in this order.
pub table_of_two : table_text two ≡ header ++ ((task_line first ++ task_line second) ++ load_lines two)
table_of_two = refl

-- The first task's line with a bound of 5 and a blocking of 2: 5 ticks are left before the deadline.
pub full_line_of_first : full_line first 5 2 ≡ codes
    "t1                                1         10         10          3          3          5          2          5\n"
unfolding digits
full_line_of_first = refl
