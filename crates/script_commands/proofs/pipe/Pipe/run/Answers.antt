use Rattle.std.proofs.Common.{Ok}
use Rattle.std.proofs.lemmas.Result.{err_from_is_err_and}
use Rattle.std.specs.List.{filter_map}
use Rattle.script_words.specs.Lines.{words_of}
use Rattle.script_commands.specs.Pipes.{pipe_in}
use Rattle.script_commands.specs.Piping.{outcome_of, trace_of}
use Rattle.script_words.specs.Segments.{segments_left}
use Rattle.script_commands.specs.Stages.{operation_in, operation_of}
use Rattle.script_commands.proofs.Gathering.{source_stops, stops, next_stage}
use Rattle.script_commands.proofs.pipe.Pipe.run.Goals as goal

pub returns-in_err-gathered : goal.returns-in_err-gathered
returns-in_err-gathered c =
    let p = err_from_is_err_and c.from_residual.result c.from_residual.ensures.1 in
    rw (p.1, p.2) (source_stops (filter_map operation_of (segments_left c.args.self.stages)) _ c.in_err-gathered.field-0.0 c.in_err-gathered.ensures)

pub returns-in_err-gathered-2 : goal.returns-in_err-gathered-2
returns-in_err-gathered-2 c =
    let p = err_from_is_err_and c.from_residual-in_err-gathered-2.result c.from_residual-in_err-gathered-2.ensures.1 in
    let operation = operation_in c.in-Some-parse.stage in
    let rest = segments_left c.next.new.self in
    let came = Ok (trace_of c.loop-words.gathered) in
    let outcome = outcome_of (pipe_in c.args.self) in
    rw (p.1, p.2) (stops operation (filter_map operation_of rest) came outcome c.in_err-gathered-2.field-0.0
    (next_stage (segments_left c.loop-words.stages) rest (words_of c.in-Some.words.rest.now) operation came outcome c.in-Some.ensures.some c.in-Some-parse.ensures c.loop-words.invariant)
    c.in_err-gathered-2.ensures)
