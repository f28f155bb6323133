-- What parts and figures print.
use Rattle.std.specs.Prelude.{ℕ, List, ◌++◌, ◌/◌, ◌%◌, codes, decimal}
use Rattle.bench_figures.specs.declared.figure.Subject.{Subject}
use Rattle.bench_figures.specs.declared.figure.Subject.TheVariants.{Core, Shared, Lane, Values, State, Buffer, Cold, Runner}
use Rattle.bench_figures.specs.declared.figure.Unit.{Unit}
use Rattle.bench_figures.specs.declared.figure.Unit.TheVariants.{Nanoseconds, MillionsASecond}
use Rattle.bench_figures.specs.declared.figure.Figure.{Figure}
use Rattle.bench_figures.specs.declared.share.Portion.{Portion}

-- The name of a part.
abbrev pub subject_name : Subject → List ℕ
subject_name Core = codes "core"
subject_name Shared = codes "shared"
subject_name Lane = codes "lane"
subject_name Values = codes "values"
subject_name State = codes "state"
subject_name Buffer = codes "buffer"
subject_name Cold = codes "cold"
subject_name Runner = codes "runner"

-- The name of a unit.
abbrev pub unit_name : Unit → List ℕ
unit_name Nanoseconds = codes "ns"
unit_name MillionsASecond = codes "M/s"

-- The line of a figure: columns parted by tabs.
abbrev pub line_of : Figure → List ℕ
line_of figure =
    codes "raw\thillgauze-" ++ (subject_name figure.subject ++ (codes "\t" ++ (figure.scenario.now ++ (codes "\t" ++ (figure.name.now
    ++ (codes "\t" ++ (unit_name figure.unit ++ (codes "\t" ++ (decimal figure.operations
    ++ (codes "\t" ++ decimal figure.nanoseconds))))))))))

-- Tenths of a percent, as a percent.
abbrev pub percent : ℕ → List ℕ
percent tenths = decimal (tenths / 10) ++ (codes "." ++ decimal (tenths % 10))

-- The line of a share: columns parted by tabs.
abbrev pub portion_line_of : Portion → List ℕ
portion_line_of share =
    codes "hillgauze-" ++ (subject_name share.subject ++ (codes "\t" ++ (share.scenario.now ++ (codes "\t" ++ (share.name.now
    ++ (codes "\t%\t" ++ (percent share.tenths ++ (codes "\t" ++ (percent share.tenths
    ++ (codes "\t" ++ decimal share.sent))))))))))
