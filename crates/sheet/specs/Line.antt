-- What one line of the sheet is answered.
use Rattle.std.specs.Prelude.{◌≡◌, ℕ, List, Some, None, Ok, Err, Option, Result}
use Rattle.settings.specs.Made.{Holds}
use Rattle.settings.specs.Refusal as settings
use Rattle.settings.specs.declared.Settings.{Settings}
use Rattle.settings.specs.declared.fault.SettingsFault.{SettingsFault}
use Rattle.promise.specs.declared.figures.Quote.{Quote}
use Rattle.sheet.specs.declared.form.LinkForm.{LinkForm}
use Rattle.sheet.specs.declared.line.LineFault.{LineFault}
use Rattle.sheet.specs.declared.line.LineFault.TheVariants.{Unfit, Refused}
use Rattle.sheet.specs.declared.line.Misfit.{Misfit}
use Rattle.mapping.specs.Interleaver.{block_of}
use Rattle.promise.specs.Kinds.{code_of}
use Rattle.promise.specs.Quotes.{Quoted}
use Rattle.sheet.specs.Figures.{figures_of}
use Rattle.sheet.specs.Form.{WrittenFor, StopsFitting}

abbrev pub number : LineFault → ℕ
number (Unfit misfit) = 18
number (Refused fault) = settings.number fault

-- the form that the line is written for, or where it stops fitting any
abbrev pub FormRead : List ℕ → Result LinkForm Misfit → Type 0
FormRead line (Ok f) = WrittenFor line f
FormRead line (Err m) = StopsFitting line m.place

-- the first of the settings' checks that the form's numbers fail
abbrev pub form_refusal : LinkForm → Option SettingsFault
form_refusal f = settings.refusal f.depth f.rows f.symbol f.subframe_rows f.miss_limit

-- The line is written for a form whose numbers are those of a settings record, these are its figures, and the link promise holds at just these numbers.
pub record Quotes (line : List ℕ) (q : Quote) : Type 0 where
  pub form : LinkForm
  pub written : WrittenFor line form
  pub allowed : form_refusal form ≡ None
  pub settings_made : Settings
  pub holds : Holds form.depth form.rows form.symbol form.subframe_rows form.miss_limit settings_made
  pub figures : q ≡ figures_of form.code settings_made
  pub carried : Quoted settings_made (code_of form.code) (block_of settings_made) q

-- The line is written for a form whose numbers are refused.
pub record Refuses (line : List ℕ) (e : SettingsFault) : Type 0 where
  pub form : LinkForm
  pub written : WrittenFor line form
  pub why : form_refusal form ≡ Some e

-- the quote, or why there is none
abbrev pub LineQuoted : List ℕ → Result Quote LineFault → Type 0
LineQuoted line (Ok q) = Quotes line q
LineQuoted line (Err (Unfit m)) = StopsFitting line m.place
LineQuoted line (Err (Refused e)) = Refuses line e
