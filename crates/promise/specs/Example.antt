-- That the promise speaks of something: the premises of arrival and ride-through can be met, and what they say then.
use Rattle.std.specs.Prelude.{◌≡◌, List, ◌∷◌, Ok, replicate}
use Rattle.settings.specs.declared.Settings.{Settings}
use Rattle.settings.specs.Made.{Holds}
use Rattle.rs16.specs.Codewords.{rs16}
use Rattle.mapping.specs.Interleaver.{block_of}
use Rattle.link.specs.SenderHistory.{frames_put}
use Rattle.promise.specs.ReceiverHistory.{ReceiverCall, show}
use Rattle.promise.specs.Reception.{Covered, AlteredThroughout, taken_with}
use Rattle.promise.specs.Promise.{Link, Behind, Delivers}
use Rattle.promise.specs.Quotes.{Quoted}

-- A link of the least settings, with rs16 over the block mapping, and what both its ends lived through: two blocks are put and drawn, and all of the line
-- is taken. A whole fade of the second block is altered. That block is covered, so it is delivered, and the last call shows its frame.
pub record PromiseApplies : Type 0 where
  pub settings : Settings
  pub holds : Holds 1 1 1 1 1 settings
  pub quoted : Quoted settings rs16 (block_of settings) (record { frame = 223; block = 255; fade = 16; resync = 262 })
  pub link : Link settings rs16 (block_of settings)
  pub altered : AlteredThroughout settings link.reception 1 0 16
  pub covered : Covered settings link.reception 262 16 1
  pub delivered : Behind (taken_with settings link.reception 1) link.receiver_calls (Delivers settings (frames_put link.sender_calls) 1)
  pub before : List ReceiverCall
  pub shown : link.receiver_calls ≡ show (Ok (replicate 223 0)) ∷ before
