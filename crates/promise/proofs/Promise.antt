-- The link promise, proved.
use Rattle.std.proofs.Common.{◌≡◌, ℕ, true, refl}
use Rattle.settings.specs.declared.Settings.{Settings}
use Rattle.settings.specs.Lengths.{resync_length}
use Rattle.settings.proofs.Ranges.{ranges}
use Rattle.code.specs.Meaning.{CodeMeaning, CodeLaws}
use Rattle.mapping.specs.Meaning.{MappingMeaning, MappingLaws}
use Rattle.link.specs.Refusal.{mapping_fits}
use Rattle.link.proofs.Lengths.{line_some}
use Rattle.link.specs.SenderHistory.{line_sent}
use Rattle.promise.specs.ReceiverHistory.{octets_taken}
use Rattle.promise.specs.Reception.{OtherwiseCovered}
use Rattle.promise.specs.Promise.{Link, LinkPromise}
use Rattle.promise.proofs.Heard.{block_base}
use Rattle.promise.proofs.Modes.{SoundCourse}
use Rattle.promise.proofs.OnLine.{MarkersSent, markers_sent}
use Rattle.link.proofs.LineSent.{sends_line}
use Rattle.link.proofs.Refused.{sender_laws}
use Rattle.promise.proofs.Hearing.{sound_course}
use Rattle.promise.proofs.InStep.{reads_at, checks_at, block_taken}
use Rattle.promise.proofs.Delivery.{found_behind}
use Rattle.promise.proofs.Waits.{receiver_refusals}
use Rattle.promise.proofs.Ride.{FindsBlock, arrival, ride_through, no_longer_fade}

module _ (s : Settings) (code : CodeMeaning) (m : MappingMeaning) (codes : CodeLaws code) (laws : MappingLaws m) (fit : mapping_fits s m ≡ true) where
  found : (link : Link s code m) (b : ℕ) → OtherwiseCovered s link.reception (resync_length s) b → FindsBlock s code m link b
  found link b covered =
      let h = link.reception in
      let line = sends_line s code m (line_some s) (ranges s).rows_low link.sender_calls link.sender link.sender_memory link.sending in
      let markers : MarkersSent s (line_sent link.sender_calls) = markers_sent s code m _ (line_sent link.sender_calls) line in
      let sound : SoundCourse s h = sound_course s code m h link.receiving link.covered.locks in
      found_behind s code m laws codes.information_fits fit (octets_taken link.receiver_calls) (block_base s h b)
      (reads_at s h markers link.covered.markers sound b covered) (checks_at s h markers link.covered.markers sound b covered)
      link.receiving refl (block_taken s h markers link.covered.markers sound b covered)

  pub link_promise : LinkPromise s code m (m.fade code.reach) (resync_length s)
  link_promise =
      let sender = sender_laws s code m fit in
      record {
        sender_refusals = sender.refusals;
        receiver_refusals = receiver_refusals s code m fit;
        line = sender.line;
        arrival = arrival s code m codes laws fit found;
        ride_through = ride_through s code m codes laws fit found;
        no_longer_fade = no_longer_fade s code m codes laws fit found;
      }
