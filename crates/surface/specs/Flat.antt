-- The answers of the layers as the flat structs that C can take: every value under its name, 0 where a refusal has none.
-- Cited by every contract of the crate. What the answers are is in the specs of register, index, search, queries, importer, fields, frames and log_frames.
-- Assumes nothing.
use Rattle.std.specs.Prelude.{get_or}
use Rattle.fields.specs.Layouts.{Reading}
use Rattle.fields.specs.Layouts.{Written}
use Rattle.lists.specs.Part.{Span}
use Rattle.register.specs.Build.{Built}
use Rattle.search.specs.Answers.{Answer}
use Rattle.search.specs.Answers.{number_in, rows_in, touches_in, threshold_p, threshold_q}
use Rattle.queries.specs.Queries.{Come}
use Rattle.importer.specs.Import.{Imported}
use Rattle.surface.specs.declared.BuildAnswer.{BuildAnswer}
use Rattle.surface.specs.declared.ListAnswer.{ListAnswer}
use Rattle.surface.specs.declared.SearchAnswer.{SearchAnswer}
use Rattle.surface.specs.declared.ManyAnswer.{ManyAnswer}
use Rattle.surface.specs.declared.ImportAnswer.{ImportAnswer}
use Rattle.surface.specs.declared.WriteAnswer.{WriteAnswer}
use Rattle.surface.specs.declared.NameAnswer.{NameAnswer}
use Rattle.surface.specs.declared.QueryAnswer.{QueryAnswer}
use Rattle.surface.specs.declared.RowAnswer.{RowAnswer}
use Rattle.surface.specs.declared.EndAnswer.{EndAnswer}
use Rattle.surface.specs.declared.RefusalAnswer.{RefusalAnswer}
use Rattle.surface.specs.declared.LogAnswer.{LogAnswer}

-- a build: its number and its line
abbrev pub build_answer : Built → BuildAnswer
build_answer b = record { number = b.number; line = b.line }

-- a list: where it starts among the words and how many it has; 0 and 0 for the empty part
abbrev pub list_answer : Span → ListAnswer
list_answer s = record { start = s.start; count = s.count }

-- a search: the number and the values that the rule sets out for each answer
abbrev pub search_answer : Answer → SearchAnswer
search_answer a = record { number = number_in a; rows = rows_in a; touches = touches_in a; p = threshold_p a; q = threshold_q a }

-- many queries: its number, and how many outcomes and rows it has written
abbrev pub many_answer : Come → ManyAnswer
many_answer c = record { number = c.number; queries = c.queries; rows = c.rows }

-- an import: its number and line, and how many outcomes and pairs it has written
abbrev pub import_answer : Imported → ImportAnswer
import_answer i = record { number = i.number; line = i.line; lines = i.lines; pairs = i.pairs }

-- a writing: its number, and how many bytes were written
abbrev pub write_answer : Written → WriteAnswer
write_answer w = record { number = w.number; len = w.len }

-- ---- readings: field k of the layout under its name; all 0 where the reading is refused

abbrev pub name_answer : Reading → NameAnswer
name_answer r = record { number = r.number; id = get_or r.fields 0 0; len = r.len }

abbrev pub query_answer : Reading → QueryAnswer
query_answer r =
    record { number = r.number; measure = get_or r.fields 0 0; p = get_or r.fields 1 0; q = get_or r.fields 2 0; allowance = get_or r.fields 3 0; len = r.len }

abbrev pub row_answer : Reading → RowAnswer
row_answer r =
    record { number = r.number; id = get_or r.fields 0 0; shared = get_or r.fields 1 0; size = get_or r.fields 2 0; least = get_or r.fields 3 0 }

abbrev pub end_answer : Reading → EndAnswer
end_answer r =
    record { number = r.number; rows = get_or r.fields 0 0; touches = get_or r.fields 1 0; p = get_or r.fields 2 0; q = get_or r.fields 3 0 }

abbrev pub refusal_answer : Reading → RefusalAnswer
refusal_answer r = record { number = r.number; refusal = get_or r.fields 0 0; touches = get_or r.fields 1 0 }

abbrev pub log_answer : Reading → LogAnswer
log_answer r = record { number = r.number; day = get_or r.fields 0 0; reading = get_or r.fields 1 0; len = r.len }
