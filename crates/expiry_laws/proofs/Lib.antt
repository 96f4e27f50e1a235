mod Laxer
mod LastOnes
mod SeenStale
