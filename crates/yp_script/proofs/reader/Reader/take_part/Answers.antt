use Rattle.std.proofs.Common.{◌≡◌, List, [], ◌∷◌, ◌++◌, map, ap, ◌∙◌}
use Rattle.std.proofs.lemmas.List.{map-append}
use Rattle.serde_json.specs.Data.{Data}
use Rattle.serde_json.specs.View.{view}
use Rattle.yp_script.specs.Readers.{progress_with}
use Rattle.yp_script.proofs.StepLaws.{took_part}
use Rattle.yp_script.proofs.reader.Reader.take_part.Goals as goal

pub returns : goal.returns
returns c =
    let old = c.args.self.now in
    let parts : map view c.push.new.self.parts.items ≡ map view old.parts.parts.items ++ view c.args.json.now ∷ [] =
    ap (map view) c.in_ok-push.ensures.parts ∙ map-append view old.parts.parts.items (c.in_ok-clone.field-0 ∷ []) ∙ ap (λ (part : Data). map view old.parts.parts.items ++ part ∷ []) c.in_ok-clone.ensures.cases in
    took_part old _ c.args.line (view c.args.json.now) c.in_ok-push.ensures.numbers parts (λ made. ap (λ (ps : List Data). record (progress_with old made) { parts = ps; schema = made }) parts)
