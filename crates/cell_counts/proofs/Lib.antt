mod Best
