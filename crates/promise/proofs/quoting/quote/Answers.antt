use Rattle.std.proofs.Common.{◌≡◌, true, Ok}
use Rattle.std.proofs.lemmas.Bool.{le-leb, cond-true}
use Rattle.settings.specs.declared.Settings.{Settings}
use Rattle.octets.specs.Words.{max_reach}
use Rattle.code.specs.Meaning.{CodeMeaning, CodeLaws}
use Rattle.mapping.specs.Answers.{fade_answer}
use Rattle.mapping.specs.Meaning.{MappingMeaning, MappingLaws}
use Rattle.link.specs.Refusal.{mapping_fits}
use Rattle.promise.specs.declared.figures.Quote.{Quote}
use Rattle.promise.specs.Quotes.{figures, Quotes}
use Rattle.promise.proofs.Promise.{link_promise}
use Rattle.promise.proofs.quoting.quote.Goals as goal

-- a quote with just the figures carries the promise
carried : (s : Settings) (code : CodeMeaning) (m : MappingMeaning) → CodeLaws code → MappingLaws m → mapping_fits s m ≡ true
    → (q : Quote) → q ≡ figures s code m → Quotes s code m (Ok q)
carried s code m codes laws fit q is = (fit, record { figures_are = is; promise = rw is (link_promise s code m codes laws fit) })

-- the fade is answered, since no code reaches further than any mapping's fades go
fade_given : (code : CodeMeaning) (m : MappingMeaning) → CodeLaws code → fade_answer m code.reach ≡ Ok (m.fade code.reach)
fade_given code m codes = cond-true _ _ _ (le-leb code.reach max_reach codes.reach_bounded)

pub returns : goal.returns
returns g c =
    let code = g.C.Code.meaning c.args.code.now in
    let m = g.M.Mapping.meaning c.args.mapping.now in
    let codes = g.met.C.Code.lawful c.args.code.now in
    let given = fade_given code m codes in
    carried c.args.settings.now code m codes (g.met.M.Mapping.lawful c.args.mapping.now) (cc) _ (cc)
