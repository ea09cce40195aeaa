-- The laws for each of the five frames of an import: both round trips, that a reader's answer is fixed by its contract, and that no line is read as two
-- of all frames. Each cites the law over every layout in `fields`, Laws.antt.
-- Assumes nothing.
use mathlib.Core.Path.{◌≡◌, refl, sym, ap, ◌∙◌}
use mathlib.Core.Bool.{true, cond, ◌||◌, not}
use mathlib.Core.List.{List, [], ◌∷◌, ◌++◌}
use Prim.Native.Nat.{ℕ, ◌≤◌, ◌<◌}
use native.Mathlib.Omega.{arith}
use lib.ListN.{length, get_or, drop}
use lib.Dec.{eqb}
use borrow.Author.Tests.{eq-eqb, eqb-true}
use Rattle.laws.specs.Below.{all_below}
use Rattle.laws.proofs.Below.{all_at}
use Rattle.hex_digits.specs.Lines.{Bytes}
use Rattle.fields.specs.Layouts.{Reading}
use Rattle.fields.specs.Layouts.{Fitting, line_of, is_frame, name_in, read_of, buffer_of}
use Rattle.fields.proofs.Laws.{fitting_named, fitting_plain, read_write, buffer_write, write_reading, kind_unique}
use Rattle.std.proofs.Common.{Result, Ok, Err}
use Rattle.refusals.specs.declared.Refusal.{Refusal}
use Rattle.refusals.proofs.Refusals.{refusal_with, with_back}
use Rattle.log_frames.specs.declared.Log.{Log}
use Rattle.log_frames.specs.declared.Outcome.{Outcome}
use Rattle.log_frames.specs.declared.Pair.{Pair}
use Rattle.log_frames.specs.declared.ImportEnd.{ImportEnd}
use Rattle.log_frames.specs.declared.ImportRefused.{ImportRefused}
use Rattle.log_frames.specs.Frames.{log_frame, outcome_frame, pair_frame, import_end_frame, import_refusal_frame, all_layouts, log_out, outcome_out, pair_out, import_end_out, import_refusal_out, a_log, an_outcome, a_pair, an_import_end, an_import_refusal}

-- ---- writing and then reading

module _ (day reading : ℕ) (name : List ℕ) (d : day < 65536) (i : reading < 65536) (b : Bytes name) (h : length name ≤ 255) where
  log_fits : Fitting log_frame (day ∷ reading ∷ []) name
  log_fits = fitting_named log_frame (day ∷ reading ∷ []) name refl (omega arith) (d, (i, tt)) b h

  pub read_write_log : (room : ℕ) → length name ≤ room
      → read_of log_frame (line_of log_frame (day ∷ reading ∷ []) name) room ≡ log_out (a_log day reading (length name))
  read_write_log room r = read_write log_frame (day ∷ reading ∷ []) name log_fits room r

  pub buffer_write_log : (buffer : List ℕ) → length name ≤ length buffer
      → buffer_of log_frame (line_of log_frame (day ∷ reading ∷ []) name) buffer ≡ name ++ drop (length name) buffer
  buffer_write_log buffer r = buffer_write log_frame (day ∷ reading ∷ []) name log_fits buffer r

pub read_write_outcome : (number value : ℕ) → number < 256 → value < 65536
    → read_of outcome_frame (line_of outcome_frame (number ∷ value ∷ []) []) 0 ≡ outcome_out (an_outcome number value)
read_write_outcome number value i j =
    let f : List ℕ = number ∷ value ∷ [] in
    read_write outcome_frame f [] (fitting_plain outcome_frame f (omega arith) (i, (j, tt))) 0 (omega arith)

pub read_write_pair : (id week sum count : ℕ) → id < 65536 → week < 65536 → sum < 4294967296 → count < 65536
    → read_of pair_frame (line_of pair_frame (id ∷ week ∷ sum ∷ count ∷ []) []) 0 ≡ pair_out (a_pair id week sum count)
read_write_pair id week sum count i j k m =
    let f : List ℕ = id ∷ week ∷ sum ∷ count ∷ [] in
    read_write pair_frame f [] (fitting_plain pair_frame f (omega arith) (i, (j, (k, (m, tt))))) 0 (omega arith)

pub read_write_import_end : (outcomes pairs : ℕ) → outcomes < 65536 → pairs < 65536
    → read_of import_end_frame (line_of import_end_frame (outcomes ∷ pairs ∷ []) []) 0 ≡ import_end_out (an_import_end outcomes pairs)
read_write_import_end outcomes pairs i j =
    let f : List ℕ = outcomes ∷ pairs ∷ [] in
    read_write import_end_frame f [] (fitting_plain import_end_frame f (omega arith) (i, (j, tt))) 0 (omega arith)

pub read_write_import_refusal : (part number line : ℕ) → part < 256 → number < 256 → line < 65536
    → read_of import_refusal_frame (line_of import_refusal_frame (part ∷ number ∷ line ∷ []) []) 0 ≡ import_refusal_out (an_import_refusal part number line)
read_write_import_refusal part number line i j k =
    let f : List ℕ = part ∷ number ∷ line ∷ [] in
    read_write import_refusal_frame f [] (fitting_plain import_refusal_frame f (omega arith) (i, (j, (k, tt)))) 0 (omega arith)

-- ---- reading and then writing

pub write_read_log : (l : List ℕ) (room : ℕ) (r : Log) → log_out (Ok r) ≡ read_of log_frame l room
    → line_of log_frame (r.day ∷ r.reading ∷ []) (name_in log_frame l) ≡ l
write_read_log l room r e = write_reading log_frame l room (log_out (Ok r)) e refl

pub write_read_outcome : (l : List ℕ) (number value : ℕ) → outcome_out (an_outcome number value) ≡ read_of outcome_frame l 0
    → line_of outcome_frame (number ∷ value ∷ []) [] ≡ l
unfolding name_in
write_read_outcome l number value e = write_reading outcome_frame l 0 (outcome_out (an_outcome number value)) e refl

pub write_read_pair : (l : List ℕ) (id week sum count : ℕ) → pair_out (a_pair id week sum count) ≡ read_of pair_frame l 0
    → line_of pair_frame (id ∷ week ∷ sum ∷ count ∷ []) [] ≡ l
unfolding name_in
write_read_pair l id week sum count e = write_reading pair_frame l 0 (pair_out (a_pair id week sum count)) e refl

pub write_read_import_end : (l : List ℕ) (outcomes pairs : ℕ) → import_end_out (an_import_end outcomes pairs) ≡ read_of import_end_frame l 0
    → line_of import_end_frame (outcomes ∷ pairs ∷ []) [] ≡ l
unfolding name_in
write_read_import_end l outcomes pairs e = write_reading import_end_frame l 0 (import_end_out (an_import_end outcomes pairs)) e refl

pub write_read_import_refusal : (l : List ℕ) (part number line : ℕ) → import_refusal_out (an_import_refusal part number line) ≡ read_of import_refusal_frame l 0
    → line_of import_refusal_frame (part ∷ number ∷ line ∷ []) [] ≡ l
unfolding name_in
write_read_import_refusal l part number line e = write_reading import_refusal_frame l 0 (import_refusal_out (an_import_refusal part number line)) e refl

-- ---- no line is read as two of all frames

-- the kinds of two layouts of the ten differ, by one computed test
pub kinds_differ : (i j : ℕ) → i < 10 → j < 10 → (get_or all_layouts i log_frame).kind ≡ (get_or all_layouts j log_frame).kind → i ≡ j
unfolding all_below
kinds_differ i j h k e =
    let t = all_at 10 (λ (m : ℕ). all_below 10 (λ (n : ℕ). not (eqb (get_or all_layouts m log_frame).kind (get_or all_layouts n log_frame).kind) || eqb m n)) refl i h in
    let u = all_at 10 (λ (n : ℕ). not (eqb (get_or all_layouts i log_frame).kind (get_or all_layouts n log_frame).kind) || eqb i n) t j k in
    eqb-true i j (rw (eq-eqb _ _ e) at u)

pub layout_unique : (l : List ℕ) (i j : ℕ) → i < 10 → j < 10 → is_frame (get_or all_layouts i log_frame) l ≡ true → is_frame (get_or all_layouts j log_frame) l ≡ true
    → i ≡ j
layout_unique l i j h k p q = kinds_differ i j h k (kind_unique (get_or all_layouts i log_frame) (get_or all_layouts j log_frame) l p q)

-- ---- a contract fixes the answer: each way of setting one out can be undone

log_read_back : Reading → Result Log Refusal
log_read_back x =
    cond (eqb x.number 0)
    (Ok (record { day = get_or x.fields 0 0; reading = get_or x.fields 1 0; len = x.len }))
    (Err (refusal_with x.number))

log_back : (r : Result Log Refusal) → log_read_back (log_out r) ≡ r
unfolding log_read_back
log_back (Ok x) = refl
log_back (Err r) = with_back r _

pub log_out_unique : (r s : Result Log Refusal) → log_out r ≡ log_out s → r ≡ s
log_out_unique r s e = sym (log_back r) ∙ ap log_read_back e ∙ log_back s

outcome_read_back : Reading → Result Outcome Refusal
outcome_read_back x =
    cond (eqb x.number 0)
    (Ok (record { case = get_or x.fields 0 0; value = get_or x.fields 1 0 }))
    (Err (refusal_with x.number))

outcome_back : (r : Result Outcome Refusal) → outcome_read_back (outcome_out r) ≡ r
unfolding outcome_read_back
outcome_back (Ok x) = refl
outcome_back (Err r) = with_back r _

pub outcome_out_unique : (r s : Result Outcome Refusal) → outcome_out r ≡ outcome_out s → r ≡ s
outcome_out_unique r s e = sym (outcome_back r) ∙ ap outcome_read_back e ∙ outcome_back s

pair_read_back : Reading → Result Pair Refusal
pair_read_back x =
    cond (eqb x.number 0)
    (Ok (record { id = get_or x.fields 0 0; week = get_or x.fields 1 0; sum = get_or x.fields 2 0; count = get_or x.fields 3 0 }))
    (Err (refusal_with x.number))

pair_back : (r : Result Pair Refusal) → pair_read_back (pair_out r) ≡ r
unfolding pair_read_back
pair_back (Ok x) = refl
pair_back (Err r) = with_back r _

pub pair_out_unique : (r s : Result Pair Refusal) → pair_out r ≡ pair_out s → r ≡ s
pair_out_unique r s e = sym (pair_back r) ∙ ap pair_read_back e ∙ pair_back s

import_end_read_back : Reading → Result ImportEnd Refusal
import_end_read_back x =
    cond (eqb x.number 0)
    (Ok (record { outcomes = get_or x.fields 0 0; pairs = get_or x.fields 1 0 }))
    (Err (refusal_with x.number))

import_end_back : (r : Result ImportEnd Refusal) → import_end_read_back (import_end_out r) ≡ r
unfolding import_end_read_back
import_end_back (Ok x) = refl
import_end_back (Err r) = with_back r _

pub import_end_out_unique : (r s : Result ImportEnd Refusal) → import_end_out r ≡ import_end_out s → r ≡ s
import_end_out_unique r s e = sym (import_end_back r) ∙ ap import_end_read_back e ∙ import_end_back s

import_refusal_read_back : Reading → Result ImportRefused Refusal
import_refusal_read_back x =
    cond (eqb x.number 0)
    (Ok (record { part = get_or x.fields 0 0; number = get_or x.fields 1 0; line = get_or x.fields 2 0 }))
    (Err (refusal_with x.number))

import_refusal_back : (r : Result ImportRefused Refusal) → import_refusal_read_back (import_refusal_out r) ≡ r
unfolding import_refusal_read_back
import_refusal_back (Ok x) = refl
import_refusal_back (Err r) = with_back r _

pub import_refusal_out_unique : (r s : Result ImportRefused Refusal) → import_refusal_out r ≡ import_refusal_out s → r ≡ s
import_refusal_out_unique r s e = sym (import_refusal_back r) ∙ ap import_refusal_read_back e ∙ import_refusal_back s
