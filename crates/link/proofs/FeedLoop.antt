-- The loop of feed: what holds before each octet, and how each turn ends.
use Rattle.std.proofs.Common.{◌≡◌, ℕ, ◌+◌, ◌<◌, true, false, List, length, get_or, drop, is_some, None, Option, sym, ap, ◌∙◌, subst, arith}
use Rattle.settings.specs.declared.Settings.{Settings}
use Rattle.settings.specs.Lengths.{block_length}
use Rattle.mapping.specs.Meaning.{MappingMeaning}
use Rattle.link.specs.declared.receiving.Mode.{Mode}
use Rattle.link.specs.declared.feeding.Stop.{Stop}
use Rattle.link.specs.Rules.{report_of, block_ends, is_fresh}
use Rattle.link.specs.Hearing.{Heard}
use Rattle.link.specs.Feeding.{fed, fed_from, fed_all}
use Rattle.link.specs.FedOctets.{FedBy, as_fed}
use Rattle.link.specs.ReceiverFits.{mode_is_fit}
use Rattle.link.proofs.FedOctets.{fed_all_lem, fed_turn, stops_there, goes_on_there}
use Rattle.link.proofs.ModeFits.{mode_stays_fit, memory_stays}

module _ (s : Settings) (m : MappingMeaning) (start : Mode) (memory₀ input : List ℕ) where
  -- so many octets are gone through, and none stopped the feed
  pub record FedUpTo (n : ℕ) (mode : Mode) (memory : List ℕ) : Type 0 where
    pub size : length memory ≡ block_length s
    pub fits : mode_is_fit s mode ≡ true
    pub same : fed s m start memory₀ input ≡ fed_from s m n mode memory (drop n input)

  module _ (n : ℕ) (mode : Mode) (memory : List ℕ) (held : FedUpTo n mode memory) where
    -- behind the last octet
    pub fed_whole : length input ≡ n → FedBy s m start memory₀ input (record { taken = length input; stop = None; mode = mode }) memory
    fed_whole e = record {
      result = held.same ∙ fed_all_lem s m n mode memory input n (omega arith) ∙ ap (λ k. fed_all k mode memory) (sym e);
      mode_still_fits = held.fits;
    }

    module _ (x : ℕ) (mode' : Mode) (stop : Option Stop) (memory' : List ℕ) (low : n < length input) (at : x ≡ get_or input n 0)
        (heard : Heard s m mode memory x mode' stop memory') where
      fits_still : mode_is_fit s mode' ≡ true
      fits_still = subst (λ md. mode_is_fit s md ≡ true) (sym heard.mode_is) (mode_stays_fit s mode x held.fits)

      -- behind an octet that stops it
      pub fed_to_stop : is_some stop ≡ true → FedBy s m start memory₀ input (record { taken = n + 1; stop = stop; mode = mode' }) memory'
      fed_to_stop e = record {
        result = held.same ∙ fed_turn s m n mode memory input n x mode' stop memory' low at heard
            ∙ stops_there (report_of s mode x) (block_ends s mode) (is_fresh mode) (n + 1) mode' memory' (fed_from s m (n + 1) mode' memory' (drop (n + 1) input))
            (ap is_some (sym heard.stop_is) ∙ e)
            ∙ ap (λ st. as_fed (record { taken = n + 1; stop = st; mode = mode' }) memory') (sym heard.stop_is);
        mode_still_fits = fits_still;
      }

      -- else it goes on
      pub fed_on : is_some stop ≡ false → FedUpTo (n + 1) mode' memory'
      fed_on e = record {
        size = ap length heard.stored ∙ memory_stays s m mode memory x ∙ held.size;
        fits = fits_still;
        same = held.same ∙ fed_turn s m n mode memory input n x mode' stop memory' low at heard
            ∙ goes_on_there (report_of s mode x) (block_ends s mode) (is_fresh mode) (n + 1) mode' memory' (fed_from s m (n + 1) mode' memory' (drop (n + 1) input))
            (ap is_some (sym heard.stop_is) ∙ e);
      }
