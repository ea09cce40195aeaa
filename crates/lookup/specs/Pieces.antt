-- The output piece by piece, as the program hands it over. What the output is: `output_of` of the crate `answers`.
-- Assumes nothing.
use Rattle.std.specs.Prelude.{◌≡◌, List, ℕ, ◌+◌, ◌<◌, length, take, drop, replicate}
use Rattle.answers.specs.Output.{program_words, opened_of, open_words, output_of}

-- bytes that are the next piece of the output, after the `sent` bytes that were handed over before it
pub record Next (input : List ℕ) (sent : ℕ) (piece : List ℕ) : Type 0 where
  pub next : piece ≡ take (length piece) (drop sent (output_of input))
  pub few : sent + length piece < 4294967296

-- an input that was opened into these words, with its first query at a place
pub record Opened (input words : List ℕ) (at : ℕ) : Type 0 where
  pub opened : (opened_of input program_words).number ≡ 0
  pub queries : at ≡ (opened_of input program_words).at
  pub index : words ≡ open_words input (replicate program_words 0)
