mod NumberParts
mod NumberRuns
mod Plains
